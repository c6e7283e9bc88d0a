-- The cells of all tables of a configuration.
use Rattle.std.proofs.Common.{refl}
use Rattle.cc2_resolved.specs.Rows.{rows_at}
use Rattle.cc2_resolved_tables.specs.Tables.{tables_rows}
use Rattle.cc2_resolved_tables.specs.declared.tables.Tables.{Tables}
use Rattle.cc2_resolved_cells.specs.Cells.{AllShowExactly, ShowExactly, row_looks}
use Rattle.cc2_resolved_cells.specs.Tables.{cells_of_tables, tables_parts}
use Rattle.cc2_resolved_cells.proofs.Rows.{table_are}

-- they are those of each table
pub tables_are : (t : Tables) → AllShowExactly (tables_parts t) (row_looks tables_rows t) → ShowExactly (cells_of_tables t) (rows_at tables_rows t)
tables_are t = table_are t tables_rows (tables_parts t) refl
