-- What Cargo reads at a key as a boolean or as a whole number: of files, of a variable and of the command line.
-- Cargo Reference, Configuration, environment variables, command-line overrides.
use Rattle.std.specs.Prelude.{ℤ, ℕ, Bool, false, pos, negsuc, int_le, ◌&&◌, codes, List, Option, Some, None, option_map, option_and_then, Result, Ok, Err, if◌then◌else◌}
use Rattle.toml.specs.Data.{Data, as_bool, as_integer, boolean, integer}
use Rattle.cc2_error.specs.Causes.{Refusal}
use Rattle.cc2_base.specs.declared.machine.Machine.{Machine}
use Rattle.cc2_value.specs.Cells.{Origin, variable}
use Rattle.cc2_value.specs.Decimals.{signed_read}
use Rattle.cc2_value.specs.SingleTexts.{truth_text}
use Rattle.cc2_value.specs.Values.{origin_of}
use Rattle.cc2_value.specs.declared.value.Value.{Value}
use Rattle.cc2_cargo.specs.Raw.{Path, RawCell, RawValue, single, array, table, is_of_override}
use Rattle.cc2_cargo_settings.specs.Cells.{read_as}
use Rattle.cc2_cargo_settings.specs.Checks.{in_width, misfit, number_must, wrong_text}
use Rattle.cc2_cargo_settings.specs.Found.{lookup_at}
use Rattle.cc2_cargo_settings.specs.Values.{on_ok}
use Rattle.cc2_cargo_settings.specs.Variables.{Given, unset, set_to, not_utf8, given, or_not_utf8}
use Rattle.cc2_cargo_settings.specs.declared.check.Width.{Width}

-- a value of a type, as TOML has it, and where it was set
abbrev pub scalar_view : {T : Type 0} → (T → Data) → Value T → RawValue
scalar_view shown v = record { value = shown v.val; origin = option_map origin_of v.definition }

abbrev pub set_at : Option Origin → Data → RawValue
set_at origin d = record { value = d; origin = origin }

-- a single value, where it is one of these
abbrev pub scalar_of_cell : (Data → Option Data) → RawCell → Option RawValue
scalar_of_cell of_data (single s) = option_map (set_at s.origin) (of_data s.value)
scalar_of_cell of_data (array from ss) = None
scalar_of_cell of_data table = None

-- a variable's value, or that its text is not one
abbrev pub parsed : List ℕ → List ℕ → List ℕ → Option Data → Result RawValue Refusal
parsed must name t (Some d) = Ok (set_at (Some (variable name)) d)
parsed must name t None = Err (wrong_text name must t)

-- the variable's value, unless the command line sets the one that is there
abbrev pub unless_override : Option RawValue → RawValue → RawValue
unless_override None v = v
unless_override (Some s) v = if is_of_override s.origin then s else v

-- what is there, with what a variable sets
abbrev pub with_given : (List ℕ → Option Data) → List ℕ → List ℕ → Given → Option RawValue → Result (Option RawValue) Refusal
with_given of_text must name unset set = Ok set
with_given of_text must name (set_to t) set = on_ok (λ v. Ok (Some (unless_override set v))) (parsed must name t (of_text t))
with_given of_text must name (not_utf8 bytes) set = or_not_utf8 name bytes set

abbrev pub flag_of_data : Data → Option Data
flag_of_data d = option_map boolean (as_bool d)

-- `true` or `false`
abbrev pub flag_of_text : List ℕ → Option Data
flag_of_text text = option_map boolean (truth_text text)

abbrev pub flag_must : List ℕ
flag_must = codes "must be true or false"

abbrev pub number_of_data : Data → Option Data
number_of_data d = option_map integer (as_integer d)

-- from -9223372036854775808 to 9223372036854775807
abbrev pub int64_of : ℤ → Option ℤ
int64_of z = if (int_le (negsuc 9223372036854775807) z && int_le z (pos 9223372036854775807)) then Some z else None

-- the whole number in this range that a text writes
abbrev pub int64_text : List ℕ → Option ℤ
int64_text text = option_and_then int64_of (signed_read text)

abbrev pub number_of_text : List ℕ → Option Data
number_of_text text = option_map integer (int64_text text)

-- a whole number in the range of its setting
abbrev pub fits_width : Width → Data → Bool
fits_width w (integer z) = in_width w z
fits_width w d = false

-- a number, where it is in the range of its setting
abbrev pub if_fits : Path → List ℕ → Width → Given → Option RawValue → Result (Option RawValue) Refusal
if_fits path name w g None = Ok None
if_fits path name w g (Some v) = if fits_width w v.value then Ok (Some v) else Err (misfit path name (number_must w) g v.origin)

module _ (look : Path → Option RawCell) (machine : Machine) where
  -- the value of one of these types at a path, or that of its variable
  abbrev pub scalar_at : (Data → Option Data) → (List ℕ → Option Data) → List ℕ → Path → List ℕ → Result (Option RawValue) Refusal
  scalar_at of_data of_text must path name =
      on_ok (with_given of_text must name (given machine name)) (read_as (scalar_of_cell of_data) path (lookup_at look path))

  -- the boolean at a path, or that of its variable
  abbrev pub flag_at : Path → List ℕ → Result (Option RawValue) Refusal
  flag_at path name = scalar_at flag_of_data flag_of_text flag_must path name

  -- the whole number at a path, or that of its variable
  abbrev pub number_at : Width → Path → List ℕ → Result (Option RawValue) Refusal
  number_at w path name =
      on_ok (if_fits path name w (given machine name)) (scalar_at number_of_data number_of_text (number_must w) path name)
