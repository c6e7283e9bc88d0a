-- The linkers and the runners of targets at the keys that lead to them, and what resolution makes of them.
-- Cargo Reference, Configuration, `target.<triple>.linker`, `target.<triple>.runner`, executable paths with arguments.
use Rattle.std.specs.Prelude.{ℕ, List, [], ◌∷◌, codes, bytes_eq, Option, None, Result, if◌then◌else◌}
use Rattle.cc2_error.specs.Causes.{Refusal}
use Rattle.cc2_error.specs.declared.error.Error.{Error}
use Rattle.cc2_value.specs.Cells.{field, name, KeyPath, Cell}
use Rattle.cc2_resolved.specs.Answers.{Answer}
use Rattle.cc2_resolved.specs.Resolving.{meant_as}
use Rattle.cc2_resolved.specs.Rows.{made_of}
use Rattle.cc2_resolved.specs.declared.roots.Meant.TheVariants.{Program}
use Rattle.cc2_target.specs.Settings.{site_for}
use Rattle.cc2_lint_settings.specs.Errors.{IsStated}
use Rattle.cc2_lint_settings.specs.UnresolvedKeys.{is_program}

-- where these keys lead from a target's table to a program, its cell
abbrev pub program_below : List (List ℕ) → (KeyPath → Option Cell) → Option Cell
program_below [] look = None
program_below (key ∷ []) look = if is_program key then look (field key ∷ []) else None
program_below (table ∷ (next ∷ path)) look = program_below (next ∷ path) (λ p. look (name table ∷ p))

-- the same from the tables of all targets
abbrev pub program_under : List (List ℕ) → (KeyPath → Option Cell) → Option Cell
program_under [] look = None
program_under (target ∷ path) look = program_below path (λ p. look (name target ∷ p))

-- the same from a whole configuration
abbrev pub program_at : List (List ℕ) → (KeyPath → Option Cell) → Option Cell
program_at [] m = None
program_at (key ∷ path) m = if bytes_eq key (codes "target") then program_under path (λ p. m (field (codes "target") ∷ p)) else None

-- what resolution makes of a program
abbrev pub program_made : List ℕ → Option Cell → Result (Option Answer) Refusal
program_made directory cell = made_of (meant_as Program (site_for directory)) cell

-- it is refused with this error, or it isn't refused
abbrev pub IsProgramRefusal : List ℕ → Option Cell → Option Error → Type 0
IsProgramRefusal directory cell e = IsStated (program_made directory cell) e
