-- An entry of the table `env`: its text, and whether it replaces what the process has.
-- Cargo Reference, Configuration, `[env]`, environment variables; Cargo 1.95 for entries of several places.
use Rattle.std.specs.Prelude.{ℕ, Bool, false, not, codes, List, [], ◌∷◌, ◌++◌, Option, Some, None, option_and_then, Result, Ok, Err, string_bytes, if◌then◌else◌}
use Rattle.toml.specs.Data.{Data, string, boolean}
use Rattle.cc2_error.specs.Causes.{Refusal, no_root, plain, wrong_type}
use Rattle.cc2_base.specs.Paths.{joined, parent_of}
use Rattle.cc2_base.specs.declared.machine.Machine.{Machine}
use Rattle.cc2_value.specs.Cells.{Origin, file, variable, command_line}
use Rattle.cc2_value.specs.SingleTexts.{truth_text}
use Rattle.cc2_cargo.specs.Raw.{Path, RawCell, single, array, table, is_of_override}
use Rattle.cc2_cargo_settings.specs.Found.{Lookup, nowhere, at, blocked, found_view, lookup_at}
use Rattle.cc2_cargo_settings.specs.TextOrList.{is_no_text}
use Rattle.cc2_cargo_settings.specs.Variables.{variable_text}
use Rattle.cc2_cargo_settings.specs.declared.env_entry.Entry.{Entry as CodeEntry}
use Rattle.cc2_cargo_settings.specs.declared.env_found.Parts.{Parts as CodeParts}

-- the path of an entry
abbrev pub entry_path : List ℕ → Path
entry_path name = codes "env" ∷ (name ∷ [])

-- the path of a part of an entry
abbrev pub part_path : List ℕ → List ℕ → Path
part_path name part = codes "env" ∷ (name ∷ (part ∷ []))

-- the variable that sets an entry
abbrev pub entry_variable : List ℕ → List ℕ
entry_variable name = codes "CARGO_ENV_" ++ name

-- the variable that sets a part of an entry
abbrev pub variable_of_part : List ℕ → List ℕ → List ℕ
variable_of_part name part = codes "CARGO_ENV_" ++ (name ++ (codes "_" ++ part))

-- an entry: its text, and whether it replaces what the process has
pub record EnvEntry : Type 0 where
  pub text : List ℕ
  pub force : Bool

abbrev pub entry_view : CodeEntry → EnvEntry
entry_view e = record { text = string_bytes e.text; force = e.force }

-- what is at the parts of an entry
pub record EntryParts : Type 0 where
  pub value : Lookup
  pub force : Lookup
  pub relative : Lookup

abbrev pub parts_view : CodeParts → EntryParts
parts_view p = record { value = found_view p.value; force = found_view p.force; relative = found_view p.relative }

abbrev pub parts_by : (List ℕ → Lookup) → EntryParts
parts_by f = record { value = f (codes "value"); force = f (codes "force"); relative = f (codes "relative") }

abbrev pub parts_at : (Path → Option RawCell) → List ℕ → EntryParts
parts_at look name = parts_by (λ part. lookup_at look (part_path name part))

-- something of another type is at a path
abbrev pub wrong_at : {A : Type 0} → Path → Result A Refusal
wrong_at path = Err (plain (wrong_type path))

-- what follows from a value, or the refusal
abbrev pub then_ok : {A B : Type 0} → Result A Refusal → (A → Result B Refusal) → Result B Refusal
then_ok (Ok a) f = f a
then_ok (Err refusal) f = Err refusal

-- where a part was set
abbrev pub place_in : Lookup → Option Origin
place_in (at (single s)) = s.origin
place_in _ = None

-- the value's place; where the command line set it, that of `relative`, if there is one
abbrev pub place_of_entry : Option Origin → Option Origin → Option Origin
place_of_entry value None = value
place_of_entry value (Some mark) = if is_of_override value then Some mark else value

-- the folder above that of a file
abbrev pub folder_of_file : List ℕ → Option (List ℕ)
folder_of_file path = option_and_then parent_of (parent_of path)

-- the folder from which a relative value is seen
abbrev pub root_for : List ℕ → Option Origin → Option (List ℕ)
root_for dir (Some (file path)) = folder_of_file path
root_for dir (Some (command_line (Some path))) = folder_of_file path
root_for dir (Some (command_line None)) = Some dir
root_for dir (Some (variable name)) = Some dir
root_for dir None = Some dir

-- the file that may have no root
abbrev pub file_in : Option Origin → List ℕ
file_in (Some (file path)) = path
file_in (Some (command_line (Some path))) = path
file_in _ = codes ""

abbrev pub joined_to : Option Origin → List ℕ → Option (List ℕ) → Result (List ℕ) Refusal
joined_to place text (Some root) = Ok (joined root text)
joined_to place text None = Err (plain (no_root (file_in place) text))

-- a text, unless a variable sets another one; the command line is stronger
abbrev pub value_or_variable : Option (List ℕ) → List ℕ → Option Origin → List ℕ
value_or_variable None text origin = text
value_or_variable (Some v) text origin = if is_of_override origin then text else v

module _ (name : List ℕ) where
  abbrev pub mark_by : List ℕ → Option Bool → Bool → Option Origin → Result Bool Refusal
  mark_by part None b origin = wrong_at (part_path name part)
  mark_by part (Some v) b origin = Ok (if is_of_override origin then b else v)

  -- a truth value, unless a variable sets another one; the command line is stronger
  abbrev pub mark_set : List ℕ → Option (List ℕ) → Bool → Option Origin → Result Bool Refusal
  mark_set part None b origin = Ok b
  mark_set part (Some v) b origin = mark_by part (truth_text v) b origin

  -- an entry that is a text
  abbrev pub entry_of_data : Data → Result EnvEntry Refusal
  entry_of_data (string text) = Ok (record { text = text; force = false })
  entry_of_data d = wrong_at (entry_path name)

  -- what its variable sets
  abbrev pub entry_of_text : List ℕ → Result EnvEntry Refusal
  entry_of_text v = if is_no_text v then wrong_at (entry_path name) else Ok (record { text = v; force = false })

module _ (machine : Machine) (name : List ℕ) where
  -- the text of a variable that sets a part
  abbrev pub part_text : List ℕ → Option (List ℕ)
  part_text part = variable_text machine (variable_of_part name part)

  abbrev pub value_of_data : Data → Option Origin → Result (List ℕ) Refusal
  value_of_data (string text) origin = Ok (value_or_variable (part_text (codes "value")) text origin)
  value_of_data d origin = wrong_at (part_path name (codes "value"))

  abbrev pub value_of_cell : RawCell → Result (List ℕ) Refusal
  value_of_cell (single s) = value_of_data s.value s.origin
  value_of_cell (array from ss) = wrong_at (part_path name (codes "value"))
  value_of_cell table = wrong_at (part_path name (codes "value"))

  -- the value of a table, which it has to have
  abbrev pub value_found : Lookup → Result (List ℕ) Refusal
  value_found nowhere = wrong_at (entry_path name)
  value_found (at c) = value_of_cell c
  value_found blocked = wrong_at (part_path name (codes "value"))

  abbrev pub mark_of_data : List ℕ → Data → Option Origin → Result Bool Refusal
  mark_of_data part (boolean b) origin = mark_set name part (part_text part) b origin
  mark_of_data part d origin = wrong_at (part_path name part)

  abbrev pub mark_of_cell : List ℕ → RawCell → Result Bool Refusal
  mark_of_cell part (single s) = mark_of_data part s.value s.origin
  mark_of_cell part (array from ss) = wrong_at (part_path name part)
  mark_of_cell part table = wrong_at (part_path name part)

  -- `force` or `relative` of a table: false where it isn't there
  abbrev pub mark_in : List ℕ → Lookup → Result Bool Refusal
  mark_in part nowhere = Ok false
  mark_in part (at c) = mark_of_cell part c
  mark_in part blocked = wrong_at (part_path name part)

-- where the entry was set, of which the value is a part
abbrev pub entry_place : EntryParts → Option Origin
entry_place parts = place_of_entry (place_in parts.value) (place_in parts.relative)

-- a variable takes its place: it isn't of the command line, and no array
abbrev pub gives_way : EntryParts → RawCell → Bool
gives_way parts (single s) = not (is_of_override s.origin)
gives_way parts (array from ss) = false
gives_way parts table = not (is_of_override (entry_place parts))

-- the text, seen from the folder of its place where it is relative
abbrev pub rooted : Option Origin → List ℕ → Bool → List ℕ → Result (List ℕ) Refusal
rooted place dir relative text = if relative then joined_to place text (root_for dir place) else Ok text

module _ (machine : Machine) (dir name : List ℕ) (parts : EntryParts) where
  -- an entry that is a table of `value`, `force` and `relative`
  abbrev pub table_entry : Result EnvEntry Refusal
  table_entry = then_ok (value_found machine name parts.value) (λ text. then_ok (mark_in machine name (codes "force") parts.force) (λ force.
      then_ok (mark_in machine name (codes "relative") parts.relative) (λ relative.
      then_ok (rooted (entry_place parts) dir relative text) (λ seen. Ok (record { text = seen; force = force })))))

  -- what files and the command line set
  abbrev pub own_entry : RawCell → Result EnvEntry Refusal
  own_entry (single s) = entry_of_data name s.value
  own_entry (array from ss) = wrong_at (entry_path name)
  own_entry table = table_entry

  abbrev pub entry_of_cell : Option (List ℕ) → RawCell → Result EnvEntry Refusal
  entry_of_cell None c = own_entry c
  entry_of_cell (Some v) c = if gives_way parts c then entry_of_text name v else own_entry c

  abbrev pub entry_in : Lookup → Result (Option EnvEntry) Refusal
  entry_in nowhere = Ok None
  entry_in (at c) = then_ok (entry_of_cell (variable_text machine (entry_variable name)) c) (λ e. Ok (Some e))
  entry_in blocked = wrong_at (entry_path name)

module _ (look : Path → Option RawCell) (machine : Machine) (dir name : List ℕ) where
  -- the entry of a name
  abbrev pub entry_at : Result (Option EnvEntry) Refusal
  entry_at = entry_in machine dir name (parts_at look name) (lookup_at look (entry_path name))
