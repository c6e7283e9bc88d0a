use Rattle.cargo_config2.proofs.CopiedTargets.{same_settings}
use Rattle.cargo_config2.proofs.copies.copied_settings.Goals as goal

pub returns-clause-same : goal.returns-clause-same
returns-clause-same c = same_settings c.args.settings.now c.in_ok-try_clone.field-0 c.in_ok-try_clone.ensures.same
