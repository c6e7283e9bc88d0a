-- What a file sets, and a nearer one too.
-- Cargo Reference, Configuration, hierarchical structure.
use Rattle.std.specs.Prelude.{ℕ, Bool, true, false, List, [], ◌∷◌, flat_map, Option, Some, None, if◌then◌else◌}
use Rattle.toml.specs.Data.{Members}
use Rattle.cc2_findings.specs.declared.form.Form.{Form}
use Rattle.cc2_findings.specs.declared.form.Form.TheVariants as form
use Rattle.cc2_findings.specs.declared.place.Place.TheVariants as at
use Rattle.cc2_findings.specs.Findings.{Found, findings_in}
use Rattle.cc2_findings.specs.Forms.{form_at, form_of}

-- a file: its path, and what it holds
abbrev pub File : Type 0
File = List ℕ × Members

-- a key of a file, what it is set to, and the nearest file that sets it, with what it is set to there
pub record Clash : Type 0 where
  pub path : List (List ℕ)
  pub form : Form
  pub file : List ℕ
  pub nearer : Form

abbrev pub in_file : List ℕ → Option Form → Option (List ℕ × Form)
in_file file None = None
in_file file (Some form) = Some (file, form)

abbrev pub first_of : {A : Type 0} → Option A → Option A → Option A
first_of (Some a) o = Some a
first_of None o = o

-- the first of the files that sets the key of a path, with what it sets it to
abbrev pub first_set : List (List ℕ) → List File → Option (List ℕ × Form)
first_set path [] = None
first_set path (f ∷ fs) = first_of (in_file f.0 (form_of path f.1)) (first_set path fs)

-- all but what joins: lists, and tables
abbrev pub is_told : Form → Form → Bool
is_told form.List form.List = false
is_told form.Table form.Table = false
is_told nearer farther = true

-- a setting beside the nearest file that sets its key, where that is reported
abbrev pub clash_by : Found Form → Option (List ℕ × Form) → List Clash
clash_by s None = []
clash_by s (Some near) =
    if is_told near.1 s.1 then record { path = s.0; form = s.1; file = near.0; nearer = near.1 } ∷ [] else []

abbrev pub clash_at : List File → Found Form → List Clash
clash_at nearer s = clash_by s (first_set s.0 nearer)

-- the settings of a file that clash with what nearer files set, in the order of its tables
abbrev pub clashes_of : List File → Members → List Clash
clashes_of nearer ms = flat_map (clash_at nearer) (findings_in form_at at.Config ms)
