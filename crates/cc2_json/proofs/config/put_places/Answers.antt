use Rattle.std.proofs.Common.{codes}
use Rattle.cc2_value.specs.Shown.{entry_at, fields_at, map_at}
use Rattle.cc2_tables.specs.Source.{source_fields}
use Rattle.cc2_tables.specs.Term.{term_fields}
use Rattle.cc2_target_table.specs.Target.{target_at}
use Rattle.cc2_json.proofs.Trees.{on_ok}
use Rattle.cc2_json.proofs.Groups.{three}
use Rattle.cc2_json.proofs.config.put_places.Goals as goal

pub returns : goal.returns
returns c =
    on_ok c.put_table-3.result
    (three c.args.form (codes "source") (codes "target") (codes "term")
    (map_at (entry_at source_fields) c.args.source) (map_at target_at c.args.target) (fields_at term_fields c.args.term)
    c.args.members.now.entries c.put_table.new.members.entries c.put_table-2.new.members.entries c.put_table-3.new.members.entries
    c.in_ok-put_table.ensures c.in_ok-put_table-2.ensures)
    c.put_table-3.ensures
