-- What resolution refuses of a configuration.
-- Cargo Reference, Configuration, config-relative paths.
use Rattle.std.specs.Prelude.{◌⊎◌, ℕ, List, Option, Some, None}
use Rattle.cc2_error.specs.Causes.{refusal_of}
use Rattle.cc2_error.specs.declared.error.Error.{Error}
use Rattle.cc2_value.specs.Cells.{KeyPath, Cell}
use Rattle.cc2_resolved.specs.Answers.{Answer}
use Rattle.cc2_resolved.specs.Rows.{by_row, IsResolved}
use Rattle.cc2_resolved.specs.Sites.{site_in}
use Rattle.cc2_resolved_tables.specs.Tables.{tables_rows}
use Rattle.cargo_config2.specs.Resolution.{IsUnresolvedCell}
use Rattle.cc2_lint_settings.specs.Programs.{IsProgramRefusal, program_at}

-- of its tables but those of targets a setting is refused with this error, or none is refused
abbrev pub IsTablesRefusal : List ℕ → (KeyPath → Option Cell) → Option Error → Type 0
IsTablesRefusal directory m None = (shown : KeyPath → Option Answer) × IsResolved (by_row tables_rows) (site_in directory m) m shown
IsTablesRefusal directory m (Some e) = IsUnresolvedCell directory m (refusal_of e)

-- the same of these tables, and of the program to which these keys lead
abbrev pub IsRefusalAt : List ℕ → List (List ℕ) → (KeyPath → Option Cell) → Option Error → Type 0
IsRefusalAt directory keys m None = IsTablesRefusal directory m None × IsProgramRefusal directory (program_at keys m) None
IsRefusalAt directory keys m (Some e) = IsTablesRefusal directory m (Some e) ⊎ IsProgramRefusal directory (program_at keys m) (Some e)
