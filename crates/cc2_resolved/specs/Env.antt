-- A variable of the table `env`: its value is meant as a path where the table says so.
-- Cargo Reference, Configuration, `[env]`.
use Rattle.std.specs.Prelude.{ℕ, Bool, false, List, [], ◌∷◌, codes, Option, Some, None, Result, Ok, if◌then◌else◌}
use Rattle.cc2_error.specs.Causes.{Refusal}
use Rattle.cc2_value.specs.Cells as cell
use Rattle.cc2_value.specs.Cells.{field, KeyPath, Cell, Single, Text, Entry, Word, Origin, Payload}
use Rattle.cc2_resolved.specs.declared.env.EnvConfigValue.{EnvConfigValue}
use Rattle.cc2_resolved.specs.Answers.{Answer, variable, shown_at, variable_answer}
use Rattle.cc2_resolved.specs.Roots.{resolved}
use Rattle.cc2_resolved.specs.Rows.{Resolving}
use Rattle.cc2_resolved.specs.Sites.{Site}
use Rattle.cc2_resolved.specs.Turns.{map_ok}
use Rattle.cc2_resolved.specs.declared.roots.Meant.TheVariants.{Path}

abbrev pub truth_of : Payload → Bool
truth_of (cell.truth b) = b
truth_of _ = false

abbrev pub is_true : Option Cell → Bool
is_true (Some (Single s)) = truth_of s.payload
is_true _ = false

abbrev pub key : List ℕ → KeyPath
key k = field k ∷ []

-- a text, from the root of its own origin where it is a relative path
abbrev pub value_for : Bool → Site → Word → Result (List ℕ) Refusal
value_for relative site w = if relative then resolved Path site.directory w else Ok w.text

abbrev pub variable_for : Bool → Bool → Site → Option Origin → Payload → Result (Option Answer) Refusal
variable_for relative force site origin (cell.word text) =
    map_ok (λ value. Some (variable (record { value = value; force = force; relative = false })))
    (value_for relative site (record { text = text; origin = origin }))
variable_for relative force site origin _ = Ok None

-- the cell of a table's value
abbrev pub variable_from : Bool → Bool → Site → Option Cell → Result (Option Answer) Refusal
variable_from relative force site (Some (Single s)) = variable_for relative force site s.origin s.payload
variable_from relative force site _ = Ok None

abbrev pub text_variable : List Word → Option Answer
text_variable [] = None
text_variable (w ∷ ws) = Some (variable (record { value = w.text; force = false; relative = false }))

abbrev pub variable_in : Option Cell → Resolving
variable_in None site look p = Ok None
variable_in (Some (Text ws)) site look [] = Ok (text_variable ws)
variable_in (Some Entry) site look [] =
    variable_from (is_true (look (key (codes "relative")))) (is_true (look (key (codes "force")))) site (look (key (codes "value")))
variable_in (Some c) site look p = Ok None

-- a text, or a table of three cells
abbrev pub by_variable : Resolving
by_variable site look p = variable_in (look []) site look p

abbrev pub variable_shown : EnvConfigValue → KeyPath → Option Answer
variable_shown v p = shown_at (Some (variable_answer v)) p
