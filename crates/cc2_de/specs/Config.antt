-- A configuration: its tables, how each is read, and the cells that it shows.
-- Cargo Reference, Configuration, configuration format.
use Rattle.std.specs.Prelude.{Bool, true, false, List, [], ◌∷◌, codes, Option, Some, None}
use Rattle.toml.specs.Data.{Members}
use Rattle.cc2_value.specs.Cells.{field, name, KeyPath, Cell, Marks, Origin}
use Rattle.cc2_value.specs.Ways.{Flaw}
use Rattle.cc2_value.specs.Shown.{Field, field_at, fields_at, entry_at, map_at}
use Rattle.cc2_leaf.specs.Commands.{command_way, command_at}
use Rattle.cc2_leaf.specs.Env.{env_way, env_at}
use Rattle.cc2_leaf.specs.Lists.{list_way, string_list_at}
use Rattle.cc2_value.specs.Maps.{map_way}
use Rattle.cc2_value.specs.Reading.{table_way, entry_way, fields_cells, fields_faults}
use Rattle.cc2_tables.specs.Build.{build_fields}
use Rattle.cc2_tables.specs.CargoNew.{new_fields}
use Rattle.cc2_tables.specs.Doc.{doc_fields}
use Rattle.cc2_tables.specs.FutureIncompatReport.{report_fields}
use Rattle.cc2_tables.specs.Http.{http_fields}
use Rattle.cc2_tables.specs.Net.{net_fields}
use Rattle.cc2_tables.specs.Registries.{registries_fields}
use Rattle.cc2_tables.specs.Registry.{registry_fields}
use Rattle.cc2_tables.specs.Source.{source_fields}
use Rattle.cc2_target_table.specs.Target.{target_at}
use Rattle.cc2_target_table.specs.TargetReading.{target_way}
use Rattle.cc2_tables.specs.Term.{term_fields}
use Rattle.cc2_de.specs.declared.config.Config.{Config}

abbrev pub config_fields : List (Field Config)
config_fields =
    record { key = codes "alias"; way = map_way list_way; cells = λ c p. map_at string_list_at c.alias p }
    ∷ record { key = codes "build"; way = table_way build_fields; cells = λ c p. fields_at build_fields c.build p }
    ∷ record { key = codes "credential-alias"; way = map_way command_way; cells = λ c p. map_at command_at c.credential_alias p }
    ∷ record { key = codes "doc"; way = table_way doc_fields; cells = λ c p. fields_at doc_fields c.doc p }
    ∷ record { key = codes "env"; way = map_way env_way; cells = λ c p. map_at env_at c.env p }
    ∷ record { key = codes "future-incompat-report"; way = table_way report_fields; cells = λ c p. fields_at report_fields c.future_incompat_report p }
    ∷ record { key = codes "cargo-new"; way = table_way new_fields; cells = λ c p. fields_at new_fields c.cargo_new p }
    ∷ record { key = codes "http"; way = table_way http_fields; cells = λ c p. fields_at http_fields c.http p }
    ∷ record { key = codes "net"; way = table_way net_fields; cells = λ c p. fields_at net_fields c.net p }
    ∷ record { key = codes "registries"; way = map_way (entry_way registries_fields); cells = λ c p. map_at (entry_at registries_fields) c.registries p }
    ∷ record { key = codes "registry"; way = table_way registry_fields; cells = λ c p. fields_at registry_fields c.registry p }
    ∷ record { key = codes "source"; way = map_way (entry_way source_fields); cells = λ c p. map_at (entry_at source_fields) c.source p }
    ∷ record { key = codes "target"; way = map_way target_way; cells = λ c p. map_at target_at c.target p }
    ∷ record { key = codes "term"; way = table_way term_fields; cells = λ c p. fields_at term_fields c.term p }
    ∷ []

-- the marks have a cell where one of them is set
abbrev pub marks_at : Bool → Bool → Option Cell
marks_at false false = None
marks_at false true = Some (Marks false true)
marks_at true doc_flags = Some (Marks true doc_flags)

-- the cells that a configuration shows: its tables', and that of its marks
abbrev pub config_at : Config → KeyPath → Option Cell
config_at c [] = marks_at c.target_flags_overridden c.target_doc_flags_overridden
config_at c (field k ∷ p) = field_at config_fields c k p
config_at c (name k ∷ p) = None

-- the cells that a file's table has, each value with this origin
abbrev pub decoded : Option Origin → Members → KeyPath → Option Cell
decoded origin members p = fields_cells config_fields origin members p

-- what is wrong with a file's table
abbrev pub config_faults : Members → List Flaw
config_faults members = fields_faults config_fields members
