-- The keys of a file at which values are looked at.
-- Cargo Reference, Configuration, configuration format, `[target]`.
use Rattle.std.specs.Prelude.{ℕ, Bool, false, ◌||◌, List, codes, bytes_eq, Option, Some, None, if◌then◌else◌}
use Rattle.std.specs.Option.{is_some}
use Rattle.toml.specs.Data.{Data}
use Rattle.cc2_findings.specs.declared.place.Place.{Place}
use Rattle.cc2_findings.specs.declared.place.Place.TheVariants as at
use Rattle.cc2_findings.specs.Values.{setting_at}
use Rattle.cc2_lint_settings.specs.declared.unresolved_key.Looked.{Looked}

-- a program is at this key of a target's table
abbrev pub is_program : List ℕ → Bool
is_program key = bytes_eq key (codes "linker") || bytes_eq key (codes "runner")

-- the same in a value that is read as one: a target's table may hold further ones
abbrev pub is_program_within : Place → List ℕ → Bool
is_program_within at.Whole key = is_program key
is_program_within _ key = false

-- a value is read at a key of a table that is there, or a program may be there
abbrev pub looked_at : Place → List ℕ → Data → Option Looked
looked_at place key d = if is_some (setting_at place key d) || is_program_within place key then Some record {} else None
