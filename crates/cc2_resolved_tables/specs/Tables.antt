-- The resolved tables of a configuration: how each is resolved, and what it shows. Those of targets stay
-- as they are until a target is asked.
use Rattle.std.specs.Prelude.{List, [], ◌∷◌, codes}
use Rattle.cc2_resolved.specs.Answers.{list_answer, command_answer}
use Rattle.cc2_resolved_tables.specs.Build.{build_rows}
use Rattle.cc2_resolved_tables.specs.CargoNew.{new_rows}
use Rattle.cc2_resolved_tables.specs.Doc.{doc_rows}
use Rattle.cc2_resolved.specs.Env.{by_variable, variable_shown}
use Rattle.cc2_resolved_tables.specs.FutureIncompatReport.{report_rows}
use Rattle.cc2_resolved_tables.specs.Http.{http_rows}
use Rattle.cc2_resolved_tables.specs.Net.{net_rows}
use Rattle.cc2_resolved_tables.specs.Registries.{registries_rows}
use Rattle.cc2_resolved_tables.specs.Registry.{registry_rows}
use Rattle.cc2_resolved.specs.Resolving.{settled}
use Rattle.cc2_resolved.specs.Rows.{Row, by, by_row, rows_at, by_name, by_entry, entry_shown, names_at, answer_at}
use Rattle.cc2_resolved_tables.specs.Source.{source_rows}
use Rattle.cc2_resolved_tables.specs.Term.{term_rows}
use Rattle.cc2_resolved_tables.specs.declared.tables.Tables.{Tables}

abbrev pub tables_rows : List (Row Tables)
tables_rows =
    record { key = codes "alias"; how = by_name (by settled); shows = λ t. names_at (answer_at list_answer) t.alias }
    ∷ record { key = codes "build"; how = by_row build_rows; shows = λ t. rows_at build_rows t.build }
    ∷ record { key = codes "credential-alias"; how = by_name (by settled); shows = λ t. names_at (answer_at command_answer) t.credential_alias }
    ∷ record { key = codes "doc"; how = by_row doc_rows; shows = λ t. rows_at doc_rows t.doc }
    ∷ record { key = codes "env"; how = by_name by_variable; shows = λ t. names_at variable_shown t.env }
    ∷ record { key = codes "future-incompat-report"; how = by_row report_rows; shows = λ t. rows_at report_rows t.future_incompat_report }
    ∷ record { key = codes "cargo-new"; how = by_row new_rows; shows = λ t. rows_at new_rows t.cargo_new }
    ∷ record { key = codes "http"; how = by_row http_rows; shows = λ t. rows_at http_rows t.http }
    ∷ record { key = codes "net"; how = by_row net_rows; shows = λ t. rows_at net_rows t.net }
    ∷ record { key = codes "registries"; how = by_name (by_entry registries_rows); shows = λ t. names_at (entry_shown registries_rows) t.registries }
    ∷ record { key = codes "registry"; how = by_row registry_rows; shows = λ t. rows_at registry_rows t.registry }
    ∷ record { key = codes "source"; how = by_name (by_entry source_rows); shows = λ t. names_at (entry_shown source_rows) t.source }
    ∷ record { key = codes "term"; how = by_row term_rows; shows = λ t. rows_at term_rows t.term }
    ∷ []
