-- The names of variables that set keys. Cargo Reference, Configuration, environment variables and `target.<triple>.linker`.
use Rattle.std.specs.Prelude.{ℕ, eqb, ◌||◌, if◌then◌else◌, List, ◌++◌, map, codes}
use Rattle.std.specs.Char.{to_ascii_uppercase}

-- `-` and `.` become `_`, and an ASCII letter is in upper case
abbrev pub in_variable : ℕ → ℕ
in_variable c = if (eqb c 45 || eqb c 46) then 95 else to_ascii_uppercase c

-- the variable that sets this of a triple, as `_LINKER`
abbrev pub target_variable : List ℕ → List ℕ → List ℕ
target_variable triple what = codes "CARGO_TARGET_" ++ (map in_variable triple ++ what)
