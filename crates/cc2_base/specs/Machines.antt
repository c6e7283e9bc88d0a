-- The values of environment variables.
use Rattle.std.specs.Prelude.{ℕ, List, [], ◌∷◌, Option, Some, None, option_map, if◌then◌else◌, bytes_eq, string_bytes, String, Vec}
use Rattle.cc2_base.specs.declared.machine.Machine.{Machine}

-- the later value where there is one, else the earlier
abbrev pub later_or : Option (List ℕ) → Option (List ℕ) → Option (List ℕ)
later_or (Some later) earlier = Some later
later_or None earlier = earlier

-- the last value of the name
abbrev pub last_value : {A B : Type 0} → List (String A × Vec ℕ B) → List ℕ → Option (List ℕ)
last_value [] name = None
last_value (entry ∷ entries) name = later_or (last_value entries name) (if bytes_eq (string_bytes entry.0) name then Some entry.1.items else None)

abbrev pub variable_of : Machine → List ℕ → Option (List ℕ)
variable_of m = last_value m.env.items

-- the home as it was passed in
abbrev pub home_of : Machine → Option (List ℕ)
home_of m = option_map string_bytes m.home
