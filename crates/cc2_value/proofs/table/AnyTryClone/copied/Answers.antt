use Rattle.cc2_value.specs.Copies.{origin_given}
use Rattle.cc2_value.proofs.Copies.{table_copied}
use Rattle.cc2_value.proofs.table.AnyTryClone.copied.Goals as goal

pub returns-clause-ok : goal.returns-clause-ok
returns-clause-ok g c =
    table_copied g.T.Table.member g.T.Fields.fields (origin_given c.args.definition) c.args.self.now _
    c.in_ok-copy_fields.ensures.ok
