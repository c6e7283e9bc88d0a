use Rattle.std.proofs.Common.{[]}
use Rattle.cargo_config2.proofs.setting.LinkerSetting.copied.Goals as goal

pub returns-clause-copy : goal.returns-clause-copy
returns-clause-copy c = c.in_ok-try_clone.ensures.same.same []
