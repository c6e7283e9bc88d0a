use Rattle.cc2_resolved.specs.ShownTargets.{target_at}
use Rattle.cargo_config2.specs.TargetQueries.{IsQueryAnswer, IsQueryCause}
use Rattle.cargo_config2.proofs.CopiedTargets.{whole_setting}
use Rattle.cargo_config2.proofs.config.Config.target.Goals as goal

pub returns-clause-answer : goal.returns-clause-answer
returns-clause-answer g c fs answers files programs h =
    let was = c.args.self.now in
    let target = target_at c.args.target.now in
    whole_setting c.setting.result (IsQueryAnswer fs answers was target) (IsQueryCause fs answers was target)
    (c.setting.ensures.answer fs answers files programs h)
