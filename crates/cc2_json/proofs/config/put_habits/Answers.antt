use Rattle.std.proofs.Common.{codes}
use Rattle.cc2_value.specs.Shown.{fields_at, map_at}
use Rattle.cc2_leaf.specs.Env.{env_at}
use Rattle.cc2_tables.specs.CargoNew.{new_fields}
use Rattle.cc2_tables.specs.Doc.{doc_fields}
use Rattle.cc2_tables.specs.FutureIncompatReport.{report_fields}
use Rattle.cc2_json.proofs.Trees.{on_ok}
use Rattle.cc2_json.proofs.Groups.{four}
use Rattle.cc2_json.proofs.config.put_habits.Goals as goal

pub returns : goal.returns
returns c =
    on_ok c.put_table-4.result
    (four c.args.form (codes "doc") (codes "env") (codes "future-incompat-report") (codes "cargo-new")
    (fields_at doc_fields c.args.doc) (map_at env_at c.args.env) (fields_at report_fields c.args.future_incompat_report) (fields_at new_fields c.args.cargo_new)
    c.args.members.now.entries c.put_table.new.members.entries c.put_table-2.new.members.entries c.put_table-3.new.members.entries c.put_table-4.new.members.entries
    c.in_ok-put_table.ensures c.in_ok-put_table-2.ensures c.in_ok-put_table-3.ensures)
    c.put_table-4.ensures
