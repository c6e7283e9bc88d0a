-- What the keys of a file are set to, as merging takes it.
-- Cargo Reference, Configuration, hierarchical structure.
use Rattle.std.specs.Prelude.{ℕ, Bool, true, false, not, ◌||◌, List, [], ◌∷◌, codes, Option, Some, None, if◌then◌else◌}
use Rattle.std.specs.Option.{is_some}
use Rattle.std.specs.Str.{bytes_eq}
use Rattle.toml.specs.Data.{Data, Members, get, get_member, as_str, as_array}
use Rattle.cc2_findings.specs.declared.place.Place.{Place}
use Rattle.cc2_findings.specs.declared.place.Place.TheVariants as at
use Rattle.cc2_findings.specs.declared.form.Form.{Form}
use Rattle.cc2_findings.specs.declared.form.Form.TheVariants as form
use Rattle.cc2_findings.specs.Kinds.{is_table}
use Rattle.cc2_findings.specs.Places.{below, is_cargo_only}

-- the key takes a text or a list of texts, and the lists of all files are joined
abbrev pub takes_list : Place → List ℕ → Bool
takes_list at.Aliases key = true
takes_list at.Build key = bytes_eq key (codes "rustflags") || bytes_eq key (codes "rustdocflags") || bytes_eq key (codes "target")
takes_list at.Target key = bytes_eq key (codes "rustflags") || bytes_eq key (codes "rustdocflags")
takes_list _ key = false

-- its keys take a text or a table, and the tables of all files are joined
abbrev pub takes_table : Place → Bool
takes_table at.Variables = true
takes_table _ = false

-- the key takes a single value, if this library reads it
abbrev pub takes_single : Place → List ℕ → Bool
takes_single at.Registry key = not (bytes_eq key (codes "global-credential-providers"))
takes_single at.Whole key = false
takes_single place key = not (is_cargo_only place)

-- of a value at a key that takes a text or a list
abbrev pub list_form : Data → Option Form
list_form d = if is_some (as_str d) then Some form.Text else if is_some (as_array d) then Some form.List else None

-- of a value at a key that takes a text or a table
abbrev pub variable_form : Data → Option Form
variable_form d = if is_some (as_str d) then Some form.Text else if is_table d then Some form.Table else None

-- of a value at this place: a table is none
abbrev pub single_form : Option Place → Data → Option Form
single_form (Some at.Whole) d = if is_table d then None else Some form.Single
single_form _ d = None

-- what a key of a table at this place is set to
abbrev pub form_at : Place → List ℕ → Data → Option Form
form_at place key d =
    if takes_list place key then list_form d
    else if takes_table place then variable_form d
    else if takes_single place key then single_form (below place key (is_table d)) d
    else None

-- what a key is set to, or keys after it in the value that it has
abbrev pub form_below : Option Place → List ℕ → List (List ℕ) → Option Data → Option Form
form_below (Some place) key [] (Some d) = form_at place key d
form_below (Some place) key (next ∷ rest) (Some d) = form_below (below place key true) next rest (get next d)
form_below (Some place) key behind None = None
form_below None key behind d = None

-- what a path of keys is set to in a file's table
abbrev pub form_of : List (List ℕ) → Members → Option Form
form_of [] ms = None
form_of (key ∷ behind) ms = form_below (Some at.Config) key behind (get_member key ms)
