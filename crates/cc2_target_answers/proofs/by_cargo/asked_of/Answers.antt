use Rattle.std.proofs.Common.{Bool, map, sym, subst}
use Rattle.serde_json.specs.View.{view}
use Rattle.cc2_target_answers.specs.CargoTargets.{AreAsked}
use Rattle.cc2_target_answers.specs.Outcomes.{Comes}
use Rattle.cc2_target_answers.proofs.by_cargo.asked_of.Goals as goal

pub returns-else-build_scripts-clause-told : goal.returns-else-build_scripts-clause-told
returns-else-build_scripts-clause-told g c answers before =
    let settings = c.args.sources.settings.now in
    let machine = c.args.sources.machine.now in
    let texts = map (λ text. text.now) c.args.texts.now in
    subst (λ (b : Bool). Comes view (AreAsked settings machine c.args.dir.now texts answers b) c.targets_of.result)
    (sym c.if-build_scripts.false) (c.targets_of.ensures.told answers before)
