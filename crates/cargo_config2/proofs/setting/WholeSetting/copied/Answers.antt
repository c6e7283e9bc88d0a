use Rattle.std.proofs.Common.{sym}
use Rattle.cargo_config2.proofs.CopiedTargets.{same_rows}
use Rattle.cargo_config2.proofs.setting.WholeSetting.copied.Goals as goal

pub returns-clause-copy : goal.returns-clause-copy
returns-clause-copy c =
    sym (same_rows c.args.settings.now c.in_ok-try_clone.field-0 (λ p. sym (c.in_ok-try_clone.ensures.same.same p)))
