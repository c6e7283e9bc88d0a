use Rattle.std.proofs.Common.{◌≡◌, Some, is_some, option_map, ap, refl, sym, ◌∙◌}
use Rattle.std.specs.BTreeMap.{get_by_text}
use Rattle.std.specs.Cow.{cow_str_bytes}
use Rattle.cc2_error.proofs.Refused.{answered_exit}
use Rattle.cc2_resolved.specs.ShownTargets.{target_at}
use Rattle.cc2_resolved.specs.Targets.{command_text}
use Rattle.cc2_resolved.specs.TargetConfigs.{shown}
use Rattle.cargo_config2.specs.TargetQueries.{IsQueryCause, IsSetting}
use Rattle.cargo_config2.proofs.Leaving.{answer_kept, leaves_kept}
use Rattle.cargo_config2.proofs.config.Config.setting.Goals as goal

pub returns-in-Some-clause-kept_as : goal.returns-in-Some-clause-kept_as
returns-in-Some-clause-kept_as g c =
    let was = c.args.self.now in
    let here : get_by_text was.target (command_text (target_at c.args.target.now)) ≡ Some c.in-Some.settings.now =
    ap (get_by_text was.target) (sym c.as_command_text.ensures) ∙ sym c.in-Some.ensures.value in
    ap (λ o. option_map g.S.Setting.part (option_map shown o)) here ∙ ap Some (sym c.in_ok-copied.ensures.copy)

pub returns-in-Some-clause-answer : goal.returns-in-Some-clause-answer
returns-in-Some-clause-answer g c fs answers files programs h =
    let was = c.args.self.now in
    let settings = c.in-Some.settings.now in
    let here : get_by_text was.target (command_text (target_at c.args.target.now)) ≡ Some settings =
    ap (get_by_text was.target) (sym c.as_command_text.ensures) ∙ sym c.in-Some.ensures.value in
    let is = answer_kept fs answers was was refl refl (cow_str_bytes c.args.target.now.text) settings h.targets here in (
      (shown settings, is.0, c.in_ok-copied.ensures.copy),
      is.1,
    )

pub returns-in_err-found-clause-answer : goal.returns-in_err-found-clause-answer
returns-in_err-found-clause-answer g c fs answers files programs h =
    let was = c.args.self.now in
    let target = target_at c.args.target.now in
    answered_exit g.S.Setting.shown c.from_residual-in_err-found.result
    (IsSetting fs answers was target g.S.Setting.part) (IsQueryCause fs answers was target)
    c.in_err-found.field-0.0 c.from_residual-in_err-found.ensures.1
    (c.in_err-found.ensures.answer fs answers files programs h)

pub returns-in_err-keep-clause-leaves : goal.returns-in_err-keep-clause-leaves
returns-in_err-keep-clause-leaves g c =
    let was = c.args.self.now in
    let found = c.in_ok-found.ensures in
    leaves_kept _ _ (cow_str_bytes c.args.target.now.text) was c.ask_for_target.new.self _ _ _ found.leaves
    c.in_ok-found.found found.answer c.keep.ensures.adds found.targets refl refl refl
    (ap is_some (ap (get_by_text was.target) (sym c.as_command_text.ensures) ∙ sym c.in_default.ensures.value))

pub returns-clause-leaves : goal.returns-clause-leaves
returns-clause-leaves g c =
    let was = c.args.self.now in
    let found = c.in_ok-found.ensures in
    leaves_kept _ _ (cow_str_bytes c.args.target.now.text) was c.ask_for_target.new.self _ _ _ found.leaves
    c.in_ok-found.found found.answer c.keep.ensures.adds found.targets refl refl refl
    (ap is_some (ap (get_by_text was.target) (sym c.as_command_text.ensures) ∙ sym c.in_default.ensures.value))

pub returns-clause-answer : goal.returns-clause-answer
returns-clause-answer g c fs answers files programs h =
    let is = c.in_ok-found.ensures.answer fs answers files programs h in (
      (shown c.in_ok-found.found, is.0, c.in_ok-answer.ensures.copy),
      is.1,
    )
