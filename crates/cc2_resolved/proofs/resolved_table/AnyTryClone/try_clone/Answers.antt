use Rattle.cc2_resolved.proofs.Copying.{table_same, entry_same}
use Rattle.cc2_resolved.proofs.resolved_table.AnyTryClone.try_clone.Goals as goal

pub returns-clause-same : goal.returns-clause-same
returns-clause-same g c =
    table_same c.args.self.now c.copy_each.new.copy g.T.ResolvedTable.rows c.in_ok-copy_each.ensures.same

pub returns-clause-same_member : goal.returns-clause-same_member
returns-clause-same_member g c =
    entry_same c.args.self.now c.copy_each.new.copy g.T.ResolvedTable.rows c.in_ok-copy_each.ensures.same
