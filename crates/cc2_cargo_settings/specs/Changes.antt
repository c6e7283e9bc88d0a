-- What variables set at settings.
use Rattle.std.specs.Prelude.{◌&&◌, ℕ, Bool, true, false, codes, if◌then◌else◌, List, [], ◌∷◌, ◌++◌, map, Option, Some, None, option_map, Result, Ok, Err, Vec, string_bytes}
use Rattle.std.specs.Str.{bytes_eq}
use Rattle.toml.specs.Data.{boolean, string}
use Rattle.std.specs.declared.alloc.Global.{Global}
use Rattle.cc2_error.specs.Causes.{Refusal}
use Rattle.cc2_error.specs.Outcomes.{Gives}
use Rattle.cc2_error.specs.declared.error.Error.{Error}
use Rattle.cc2_base.specs.EnvTexts.{not_text_refusal}
use Rattle.cc2_base.specs.declared.machine.Machine.{Machine}
use Rattle.cc2_value.specs.Cells.{Word, variable}
use Rattle.cc2_cargo.specs.Raw.{LayerOrigin, Path, RawCell, RawValue, single, array, table, raw_at}
use Rattle.cc2_cargo.specs.RawReading.{one_at}
use Rattle.cc2_cargo_settings.specs.CheckedTexts.{checked_text_at}
use Rattle.cc2_cargo_settings.specs.Checks.{accepts, must_of, wrong_text}
use Rattle.cc2_cargo_settings.specs.Found.{Lookup, nowhere, at, blocked, lookup_at}
use Rattle.cc2_cargo_settings.specs.Names.{key_variable}
use Rattle.cc2_cargo_settings.specs.Mixed.{mixed_at}
use Rattle.cc2_cargo_settings.specs.Scalars.{flag_at, number_at, set_at}
use Rattle.cc2_cargo_settings.specs.Settings.{Row}
use Rattle.cc2_cargo_settings.specs.TextOrList.{text_or_list_at}
use Rattle.cc2_cargo_settings.specs.Commands.{command_at}
use Rattle.cc2_cargo_settings.specs.Values.{list_at, on_ok, text_at}
use Rattle.cc2_cargo_settings.specs.Variables.{Given, unset, set_to, not_utf8, given}
use Rattle.cc2_cargo_settings.specs.declared.change.Change.{Change as CodeChange}
use Rattle.cc2_cargo_settings.specs.declared.check.Check.{Check}
use Rattle.cc2_cargo_settings.specs.declared.setting.Kind.{Kind}
use Rattle.cc2_cargo_settings.specs.declared.setting.Kind.TheVariants.{Text, Checked, Flag, Number, Words, Command, TextOrList, TextOrWords, Mixed}

-- the cells of a value: at the empty path its own
abbrev pub Cells : Type 0
Cells = Path → Option RawCell

abbrev pub single_cells : RawValue → Cells
single_cells v = one_at (single v)

abbrev pub word_value : Word → RawValue
word_value w = set_at w.origin (string w.text)

abbrev pub word_cells : Word → Cells
word_cells w = single_cells (word_value w)

-- where an array is set that no layer sets
abbrev pub set_by_none : LayerOrigin
set_by_none = record { origin = None; turn = 0 }

-- an array of texts
abbrev pub words_cells : List Word → Cells
words_cells ws = one_at (array set_by_none (map word_value ws))

abbrev pub flag_cells : List ℕ → Bool → Cells
flag_cells name flag = single_cells (set_at (Some (variable name)) (boolean flag))

abbrev pub text_cells : List ℕ → List ℕ → Cells
text_cells name t = single_cells (set_at (Some (variable name)) (string t))

abbrev pub cells_read : {A : Type 0} → (A → Cells) → Result (Option A) Refusal → Result (Option Cells) Refusal
cells_read cells read = on_ok (λ a. Ok (option_map cells a)) read

-- a text that is taken, of a setting's own variable
abbrev pub own_checked : Check → List ℕ → List ℕ → Result (Option Cells) Refusal
own_checked check name t = if accepts check t then Ok (Some (text_cells name t)) else Err (wrong_text name (must_of check) t)

-- what a text of a setting's own variable sets: itself, or whether it is `1`
abbrev pub own_text : Kind → List ℕ → List ℕ → Result (Option Cells) Refusal
own_text Flag name t = Ok (Some (flag_cells name (bytes_eq t (codes "1"))))
own_text (Checked check) name t = own_checked check name t
own_text _ name t = Ok (Some (text_cells name t))

-- the same of bytes that aren't UTF-8: they are no `1`, no text that must be checked, and count for nothing elsewhere
abbrev pub own_bytes : Kind → List ℕ → List ℕ → Result (Option Cells) Refusal
own_bytes Flag name bytes = Ok (Some (flag_cells name false))
own_bytes (Checked check) name bytes = Err (not_text_refusal name bytes)
own_bytes _ name bytes = Ok None

abbrev pub own_given : Kind → List ℕ → Given → Result (Option Cells) Refusal
own_given kind name unset = Ok None
own_given kind name (set_to t) = own_text kind name t
own_given kind name (not_utf8 bytes) = own_bytes kind name bytes

-- what is read at a path, where its variable is set
abbrev pub if_set : Given → Result (Option Cells) Refusal → Result (Option Cells) Refusal
if_set unset read = Ok None
if_set (set_to t) read = read
if_set (not_utf8 bytes) read = read

-- what a setting's own variable sets, else what is read
abbrev pub own_or : Result (Option Cells) Refusal → Result (Option Cells) Refusal → Result (Option Cells) Refusal
own_or (Ok None) read = read
own_or (Ok (Some cells)) read = Ok (Some cells)
own_or (Err refusal) read = Err refusal

-- the first word as a text, and no words as an array
abbrev pub first_cells : List Word → Cells
first_cells [] = words_cells []
first_cells (w ∷ ws) = word_cells w

abbrev pub cell_is_array : RawCell → Bool
cell_is_array (single s) = false
cell_is_array (array from ss) = true
cell_is_array table = false

abbrev pub has_array : Lookup → Bool
has_array nowhere = false
has_array (at c) = cell_is_array c
has_array blocked = false

-- one of two paths leads to the other or below it
abbrev pub meets : Path → Path → Bool
meets [] q = true
meets (k ∷ p) [] = true
meets (k ∷ p) (j ∷ q) = bytes_eq k j && meets p q

-- a path, and what variables set there
pub record Change : Type 0 where
  pub path : Path
  pub cells : Cells

abbrev pub change_of : CodeChange → Change
change_of c = record { path = map string_bytes c.path.items; cells = raw_at c.raw }

abbrev pub with_change : Path → Option Cells → List Change → List Change
with_change path None cs = cs
with_change path (Some cells) cs = record { path = path; cells = cells } ∷ cs

-- changes, and others after them
abbrev pub changes_then : List Change → Result (List Change) Refusal → Result (List Change) Refusal
changes_then done more = on_ok (λ cs. Ok (done ++ cs)) more

-- what a setting's own variable sets, where it has one
abbrev pub own_at : Machine → Kind → Option (List ℕ) → Result (Option Cells) Refusal
own_at machine kind None = Ok None
own_at machine kind (Some name) = own_given kind name (given machine name)

module _ (look : Path → Option RawCell) (machine : Machine) where
  -- what Cargo reads at a path as this kind, with the variable of this name
  abbrev pub read_at : Kind → Path → List ℕ → Result (Option Cells) Refusal
  read_at Text path name = cells_read word_cells (text_at look machine path name)
  read_at Flag path name = cells_read single_cells (flag_at look machine path name)
  read_at (Checked check) path name = cells_read word_cells (checked_text_at look machine check path name)
  read_at (Number width) path name = cells_read single_cells (number_at look machine width path name)
  read_at Words path name = cells_read words_cells (list_at look machine path name)
  read_at Command path name = cells_read words_cells (command_at look machine path name)
  read_at (Mixed mixed) path name = cells_read single_cells (mixed_at look machine mixed path name)
  read_at TextOrWords path name =
      if has_array (lookup_at look path) then cells_read words_cells (list_at look machine path name)
      else cells_read word_cells (text_at look machine path name)
  read_at TextOrList path name =
      if has_array (lookup_at look path) then cells_read words_cells (text_or_list_at look machine path name)
      else cells_read first_cells (text_or_list_at look machine path name)

  -- what variables set at a row: its own, else that of its path, with what else is read there; none where neither is set
  abbrev pub change_at : Row → Result (Option Cells) Refusal
  change_at r =
      own_or (own_at machine r.kind r.own)
      (if_set (given machine (key_variable r.path)) (read_at r.kind r.path (key_variable r.path)))

  -- the same where a key asks for the row; else none
  abbrev pub change_asked : Path → Row → Result (Option Cells) Refusal
  change_asked asked r = if meets asked r.path then change_at r else Ok None

  -- what variables set at those of these rows that a key asks for, or the first refusal
  abbrev pub changes_at : Path → List Row → Result (List Change) Refusal
  changes_at asked [] = Ok []
  changes_at asked (r ∷ rs) = on_ok (λ cells. on_ok (λ cs. Ok (with_change r.path cells cs)) (changes_at asked rs)) (change_asked asked r)

-- a result has these changes and those at these rows after them, or the first refusal
abbrev pub HasChanges : (Path → Option RawCell) → Machine → Path → List Row → List Change → Result (Vec CodeChange Global) Error → Type 0
HasChanges look machine asked rows done r = Gives (λ all. map change_of all.items) r (changes_then done (changes_at look machine asked rows))
