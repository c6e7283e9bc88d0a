-- Which keys of a file aren't used, since a variable sets their setting.
use Rattle.std.specs.Prelude.{◌≡◌, ◌⊎◌, ℕ, Bool, true, false, ◌&&◌, List, [], ◌∷◌, map, flat_map, Option, Some, None, option_and_then, is_some, if◌then◌else◌}
use Rattle.serde_json.specs.Data as json
use Rattle.toml.specs.Data.{Members}
use Rattle.cc2_base.specs.declared.machine.Machine.{Machine}
use Rattle.cc2_error.specs.Causes.{Refusal}
use Rattle.cc2_value.specs.Cells as cell
use Rattle.cc2_value.specs.Cells.{Key, KeyPath, Cell, Origin}
use Rattle.cc2_value.specs.Visits.{Look}
use Rattle.cc2_findings.specs.declared.place.Place.TheVariants as at
use Rattle.cc2_findings.specs.Findings.{Found, findings_in}
use Rattle.cc2_findings.specs.Forms.{form_at}
use Rattle.cc2_findings.specs.Founds.{where_found}
use Rattle.cc2_findings.specs.declared.form.Form.{Form}
use Rattle.cc2_json.specs.Forms.{first_origin}
use Rattle.cc2_json.specs.Reader.{texts, IsUnshadowed}
use Rattle.cc2_de.specs.VariablesAlone.{IsSetBy, IsVariableCause}
use Rattle.cc2_lint_settings.specs.Setters.{is_browser, setter_at}
use Rattle.cc2_lint_settings.specs.Settings.{with_origins}

-- a key that isn't used, and the variable that sets its setting
abbrev pub Hidden : Type 0
Hidden = List (List ℕ) × List ℕ

-- the variable that set a value, if one did
abbrev pub set_variable : Option Origin → Option (List ℕ)
set_variable None = None
set_variable (Some (cell.file path)) = None
set_variable (Some (cell.variable variable)) = Some variable
set_variable (Some (cell.command_line path)) = None

-- variables set all of these
abbrev pub are_set : List (Option Origin) → Bool
are_set [] = true
are_set (o ∷ os) = is_some (set_variable o) && are_set os

-- the variable that set the first of these, where variables set all of them
abbrev pub first_setter : List (Option Origin) → Option (List ℕ)
first_setter [] = None
first_setter (o ∷ os) = if are_set os then set_variable o else None

-- the variable that set a value or a whole array
abbrev pub cell_setter : Cell → Option (List ℕ)
cell_setter (cell.Single s) = set_variable s.origin
cell_setter (cell.Text ws) = set_variable (first_origin ws)
cell_setter (cell.Items ws) = first_setter (map (λ w. w.origin) ws)
cell_setter (cell.Joined ss) = first_setter (map (λ s. s.origin) ss)
cell_setter cell.Entry = None
cell_setter cell.Undecoded = None
cell_setter (cell.Marks flags doc_flags) = None

-- the variable set the value at these keys
abbrev pub IsSetAt : Look → List (List ℕ) → List ℕ → Type 0
IsSetAt m path variable =
    (k : Key) × (p : KeyPath) × IsUnshadowed with_origins m (k ∷ p) × (texts (k ∷ p) ≡ path) × (option_and_then cell_setter (m (k ∷ p)) ≡ Some variable)

-- of each path of keys the variable that set the value there, but none for the browser
pub record IsSetterOf (m : Look) (setter : List (List ℕ) → Option (List ℕ)) : Type 0 where
  pub sets : (path : List (List ℕ)) (variable : List ℕ) → setter path ≡ Some variable → (is_browser path ≡ false) × IsSetAt m path variable
  pub all : (path : List (List ℕ)) (variable : List ℕ) → is_browser path ≡ false → IsSetAt m path variable → setter path ≡ Some variable

-- the keys of a file whose settings variables set, in the order of its tables
abbrev pub hidden_by : (List (List ℕ) → Option (List ℕ)) → Members → List Hidden
hidden_by setter ms = flat_map (λ setting. where_found setting.0 (setter setting.0)) (findings_in form_at at.Config ms)

-- these are hidden in each of the files by the machine's variables; none where a variable is refused
abbrev pub AreHidden : Machine → List Members → List (List Hidden) → Type 0
AreHidden machine files found =
    ((refusal : Refusal) × IsVariableCause machine refusal × (found ≡ map (λ ms. []) files))
    ⊎ ((m : Look) × (setter : List (List ℕ) → Option (List ℕ)) × IsSetBy machine m × IsSetterOf m setter × (found ≡ map (hidden_by setter) files))

-- the same by the JSON of what variables set
abbrev pub hidden_at : json.Data → Found Form → List Hidden
hidden_at d setting = where_found setting.0 (setter_at setting.0 d)

abbrev pub hidden_of : json.Data → Members → List Hidden
hidden_of d ms = flat_map (hidden_at d) (findings_in form_at at.Config ms)

abbrev pub hidden_in : Option json.Data → Members → List Hidden
hidden_in None ms = []
hidden_in (Some d) ms = hidden_of d ms
