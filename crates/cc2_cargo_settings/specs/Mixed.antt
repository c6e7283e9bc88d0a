-- What Cargo 1.95 reads at a key whose value has one of several types, as a whole number or a text. Cargo Reference,
-- Configuration, `build.jobs`, `profile.<name>.opt-level`, environment variables, command-line overrides.
use Rattle.std.specs.Prelude.{ℤ, ℕ, pos, negsuc, int_le, Bool, true, false, is_none, ◌&&◌, ◌||◌, codes, if◌then◌else◌, List, Option, Some, None, Result, Ok, Err}
use Rattle.std.specs.Str.{bytes_eq}
use Rattle.toml.specs.Data.{Data, boolean, integer, string}
use Rattle.cc2_error.specs.Causes.{Refusal, plain, wrong_type}
use Rattle.cc2_base.specs.declared.machine.Machine.{Machine}
use Rattle.cc2_value.specs.Cells.{Origin, variable}
use Rattle.cc2_value.specs.SingleTexts.{truth_text}
use Rattle.cc2_cargo.specs.Raw.{Path, RawCell, RawValue, single, array, table, is_of_override}
use Rattle.cc2_cargo_settings.specs.Found.{Lookup, nowhere, at, blocked, lookup_at}
use Rattle.cc2_cargo_settings.specs.Scalars.{int64_text, set_at}
use Rattle.cc2_cargo_settings.specs.TextOrList.{is_no_text}
use Rattle.cc2_cargo_settings.specs.Variables.{Given, unset, set_to, not_utf8, given, or_not_utf8}
use Rattle.cc2_cargo_settings.specs.declared.mixed.Mixed.{Mixed}
use Rattle.cc2_cargo_settings.specs.declared.mixed.Mixed.TheVariants as mixed

-- from -2147483648 to 2147483647
abbrev pub is_int32 : ℤ → Bool
is_int32 z = int_le (negsuc 2147483647) z && int_le z (pos 2147483647)

abbrev pub is_debug_number : ℤ → Bool
is_debug_number z = int_le (pos 0) z && int_le z (pos 2)

abbrev pub is_size : List ℕ → Bool
is_size t = bytes_eq t (codes "s") || bytes_eq t (codes "z")

abbrev pub is_debug_text : List ℕ → Bool
is_debug_text t =
    bytes_eq t (codes "none")
    || (bytes_eq t (codes "line-directives-only")
    || (bytes_eq t (codes "line-tables-only") || (bytes_eq t (codes "limited") || bytes_eq t (codes "full"))))

abbrev pub takes_flag : Mixed → Bool
takes_flag mixed.Jobs = false
takes_flag mixed.OptLevel = false
takes_flag mixed.Debug = true
takes_flag mixed.Lto = true
takes_flag mixed.Strip = true

abbrev pub takes_number : Mixed → ℤ → Bool
takes_number mixed.Jobs z = is_int32 z
takes_number mixed.OptLevel z = true
takes_number mixed.Debug z = is_debug_number z
takes_number mixed.Lto z = false
takes_number mixed.Strip z = false

abbrev pub takes_text : Mixed → List ℕ → Bool
takes_text mixed.Jobs t = true
takes_text mixed.OptLevel t = is_size t
takes_text mixed.Debug t = is_debug_text t
takes_text mixed.Lto t = is_none (truth_text t)
takes_text mixed.Strip t = true

abbrev if_taken : Bool → Data → Option Data
if_taken b d = if b then Some d else None

-- a value, where the setting takes it
abbrev pub accepted_data : Mixed → Data → Option Data
accepted_data m (boolean b) = if_taken (takes_flag m) (boolean b)
accepted_data m (integer z) = if_taken (takes_number m z) (integer z)
accepted_data m (string t) = if_taken (takes_text m t) (string t)
accepted_data m d = None

-- what Cargo takes a variable's text for: a boolean, a whole number, or a text
abbrev pub number_or_text : List ℕ → Option ℤ → Data
number_or_text t (Some z) = integer z
number_or_text t None = string t

abbrev pub flag_or_other : List ℕ → Option Bool → Data
flag_or_other t (Some b) = boolean b
flag_or_other t None = number_or_text t (int64_text t)

abbrev pub data_of_text : List ℕ → Data
data_of_text t = flag_or_other t (truth_text t)

-- a value that is set there, where it is taken
abbrev pub set_if : Path → Option Origin → Option Data → Result (Option RawValue) Refusal
set_if path origin (Some d) = Ok (Some (set_at origin d))
set_if path origin None = Err (plain (wrong_type path))

module _ (m : Mixed) (path : Path) where
  abbrev pub set_by_text : List ℕ → List ℕ → Result (Option RawValue) Refusal
  set_by_text name t = set_if path (Some (variable name)) (accepted_data m (data_of_text t))

  abbrev pub set_by_value : RawValue → Result (Option RawValue) Refusal
  set_by_value s = set_if path s.origin (accepted_data m s.value)

  -- what is read where this cell is at the path and the variable has a text: a variable replaces what no override sets,
  -- but of an array only a boolean or a whole number does
  abbrev pub cell_and_text : List ℕ → List ℕ → RawCell → Result (Option RawValue) Refusal
  cell_and_text name t (single s) = if is_of_override s.origin then set_by_value s else set_by_text name t
  cell_and_text name t (array from ss) = if is_no_text t then set_by_text name t else Err (plain (wrong_type path))
  cell_and_text name t table = set_by_text name t

  abbrev pub cell_alone : RawCell → Result (Option RawValue) Refusal
  cell_alone (single s) = set_by_value s
  cell_alone (array from ss) = Err (plain (wrong_type path))
  cell_alone table = Err (plain (wrong_type path))

  abbrev pub where_nothing : List ℕ → Given → Result (Option RawValue) Refusal
  where_nothing name unset = Ok None
  where_nothing name (set_to t) = set_by_text name t
  where_nothing name (not_utf8 bytes) = or_not_utf8 name bytes None

  abbrev pub where_cell : List ℕ → Given → RawCell → Result (Option RawValue) Refusal
  where_cell name unset c = cell_alone c
  where_cell name (set_to t) c = cell_and_text name t c
  where_cell name (not_utf8 bytes) c = cell_alone c

  abbrev pub mixed_by : List ℕ → Given → Lookup → Result (Option RawValue) Refusal
  mixed_by name g nowhere = where_nothing name g
  mixed_by name g (at c) = where_cell name g c
  mixed_by name g blocked = Err (plain (wrong_type path))

-- the value at a path, or its variable's
abbrev pub mixed_at : (Path → Option RawCell) → Machine → Mixed → Path → List ℕ → Result (Option RawValue) Refusal
mixed_at look machine m path name = mixed_by m path name (given machine name) (lookup_at look path)
