use Rattle.cc2_value.specs.Copies.{origin_given}
use Rattle.cc2_target_table.proofs.Targets.{target_copied}
use Rattle.cc2_target_table.proofs.target.copy.TargetConfigTryClone.copied.Goals as goal

pub returns-clause-ok : goal.returns-clause-ok
returns-clause-ok c =
    target_copied (origin_given c.args.definition) c.args.self.now _ c.in_ok-copy_fields.ensures.ok c.in_ok-copy.ensures
