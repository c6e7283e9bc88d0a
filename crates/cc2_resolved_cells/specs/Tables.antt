-- The cells of the tables whose fields aren't all values.
use Rattle.std.specs.Prelude.{List, [], ◌∷◌, Some, option_map}
use Rattle.cc2_value.specs.Spellings.{color_spelling}
use Rattle.cc2_resolved.specs.Answers.{command_answer, list_answer, spelled_answer, truth_answer, variable_answer}
use Rattle.cc2_resolved.specs.Rows.{Row}
use Rattle.cc2_resolved_cells.specs.Cells.{ResolvedCell, entry_cells, row_keys, cells_of_map, row_cells, value_cells, row_values}
use Rattle.cc2_resolved_tables.specs.Build.{build_rows}
use Rattle.cc2_resolved_tables.specs.CargoNew.{new_rows}
use Rattle.cc2_resolved_tables.specs.Doc.{doc_rows}
use Rattle.cc2_resolved_tables.specs.FutureIncompatReport.{report_rows}
use Rattle.cc2_resolved_tables.specs.Http.{http_rows}
use Rattle.cc2_resolved_tables.specs.Net.{net_rows}
use Rattle.cc2_resolved_tables.specs.Registries.{registries_rows}
use Rattle.cc2_resolved_tables.specs.Registry.{registry_rows}
use Rattle.cc2_resolved_tables.specs.Source.{source_rows}
use Rattle.cc2_resolved_tables.specs.Tables.{tables_rows}
use Rattle.cc2_resolved_tables.specs.Term.{term_rows}
use Rattle.cc2_resolved_tables.specs.TermProgress.{progress_rows}
use Rattle.cc2_resolved_tables.specs.declared.tables.Tables.{Tables}
use Rattle.cc2_resolved_tables.specs.declared.term.TermConfig.{TermConfig}

-- the cells of a table whose fields are values
abbrev pub cells_of_table : {A : Type 0} → List (Row A) → A → List ResolvedCell
cells_of_table rows a = row_cells (row_keys rows) (row_values rows a)

abbrev pub cells_of_member : {A : Type 0} → List (Row A) → A → List ResolvedCell
cells_of_member rows a = entry_cells (cells_of_table rows a)

-- the cells of each field of the table `term`
abbrev pub term_parts : TermConfig → List (List ResolvedCell)
term_parts t =
    value_cells (option_map truth_answer t.quiet)
    ∷ value_cells (option_map truth_answer t.verbose)
    ∷ value_cells (option_map (spelled_answer color_spelling) t.color)
    ∷ cells_of_table progress_rows t.progress
    ∷ []

-- the cells of each table of a configuration
abbrev pub tables_parts : Tables → List (List ResolvedCell)
tables_parts t =
    cells_of_map (λ v. value_cells (Some (list_answer v))) t.alias.entries
    ∷ cells_of_table build_rows t.build
    ∷ cells_of_map (λ v. value_cells (Some (command_answer v))) t.credential_alias.entries
    ∷ cells_of_table doc_rows t.doc
    ∷ cells_of_map (λ v. value_cells (Some (variable_answer v))) t.env.entries
    ∷ cells_of_table report_rows t.future_incompat_report
    ∷ cells_of_table new_rows t.cargo_new
    ∷ cells_of_table http_rows t.http
    ∷ cells_of_table net_rows t.net
    ∷ cells_of_map (cells_of_member registries_rows) t.registries.entries
    ∷ cells_of_table registry_rows t.registry
    ∷ cells_of_map (cells_of_member source_rows) t.source.entries
    ∷ row_cells (row_keys term_rows) (term_parts t.term)
    ∷ []

-- the cells of all tables, in the order of the tables and of their fields; the members of a map in that of their names
abbrev pub cells_of_tables : Tables → List ResolvedCell
cells_of_tables t = row_cells (row_keys tables_rows) (tables_parts t)
