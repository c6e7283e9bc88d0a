-- What a resolved configuration shows.
use Rattle.std.specs.Prelude.{Option}
use Rattle.cc2_value.specs.Cells.{KeyPath, Cell}
use Rattle.cc2_value.specs.Shown.{map_at}
use Rattle.cc2_target_table.specs.Target.{target_at}
use Rattle.cc2_de.specs.Config.{marks_at}
use Rattle.cc2_resolved.specs.Answers.{Answer}
use Rattle.cc2_resolved.specs.Rows.{rows_at}
use Rattle.cc2_resolved_tables.specs.Tables.{tables_rows}
use Rattle.cc2_resolved_tables.specs.declared.tables.Tables.{Tables}
use Rattle.cargo_config2.specs.declared.config.Config.{Config}

abbrev pub tables_of : Config → Tables
tables_of c = record {
  alias = c.alias;
  build = c.build;
  credential_alias = c.credential_alias;
  doc = c.doc;
  env = c.env;
  future_incompat_report = c.future_incompat_report;
  cargo_new = c.cargo_new;
  http = c.http;
  net = c.net;
  registries = c.registries;
  registry = c.registry;
  source = c.source;
  term = c.term;
}

-- its tables
abbrev pub shown : Config → KeyPath → Option Answer
shown c p = rows_at tables_rows (tables_of c) p

-- the cells of the tables of targets, which it keeps
abbrev pub targets_in : Config → KeyPath → Option Cell
targets_in c p = map_at target_at c.loaded.target p

-- that of the marks, which it keeps
abbrev pub marks_in : Config → Option Cell
marks_in c = marks_at c.loaded.flags_overridden c.loaded.doc_flags_overridden
