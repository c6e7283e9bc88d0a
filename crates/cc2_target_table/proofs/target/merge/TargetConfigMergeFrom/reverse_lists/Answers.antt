use Rattle.cc2_target_table.proofs.Targets.{target_reversed}
use Rattle.cc2_target_table.proofs.target.merge.TargetConfigMergeFrom.reverse_lists.Goals as goal

pub returns : goal.returns
returns c =
    target_reversed c.args.self.now _ c.in_ok-nested.ensures.fields
    (rw c.in_ok-nested.ensures.nested at c.in_ok-self.ensures)
