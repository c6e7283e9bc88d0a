use Rattle.std.proofs.Common.{◌≡◌, Option, Some, Ok, Err, refl, sym, ap, subst, inl, inr}
use Rattle.cc2_base.proofs.Telling.{kept_same}
use Rattle.cc2_error.specs.Causes.{refusal_of}
use Rattle.cc2_resolved.specs.ShownTargets.{target_at}
use Rattle.cc2_resolved.specs.Targets.{Target, target_of}
use Rattle.cc2_resolved.specs.TargetConfigs.{shown}
use Rattle.cc2_target.proofs.Exits.{known_none, known_one}
use Rattle.cc2_answers.specs.TargetRuns.{IsOutcomeFor}
use Rattle.cc2_answers.specs.Items.{target}
use Rattle.cc2_answers.specs.Outcomes.{IsOutcomeOf}
use Rattle.cc2_answers.proofs.Comes.{comes_exit}
use Rattle.cargo_config2.proofs.Left.{left_same}
use Rattle.cc2_answers.proofs.item.settings_lines.Goals as goal

pub returns-in_err-target : goal.returns-in_err-target
returns-in_err-target g c =
    let config = c.args.config.now in
    let text = c.args.text.now in
    let e = c.in_err-target.field-0.0 in
    let (none, is) = known_none (target_of text) _ _ c.in_err-target.ensures.target in record {
      left = left_same _ _ config;
      same = kept_same (g.P.Programs.told c.args.programs.now);
      told = λ fs answers files programs ready.
          comes_exit (IsOutcomeOf fs answers config (target text)) c.from_residual.result e c.from_residual.ensures.1
          (inr (
            Err (refusal_of e),
            subst (λ (t : Option Target). IsOutcomeFor fs answers config t (Err (refusal_of e))) (sym none) (inl (ap Err is)),
            refl,
          ));
    }

pub returns-in_err-settings : goal.returns-in_err-settings
returns-in_err-settings g c =
    let config = c.args.config.now in
    let text = c.args.text.now in
    let asked = c.in_err-settings.ensures in
    let e = c.in_err-settings.field-0.0 in
    let one : target_of text ≡ Some (target_at c.in_ok-target.target) = known_one (target_of text) _ _ c.in_ok-target.ensures.target in record {
      left = record { agrees = asked.leaves.agrees; tables = asked.leaves.tables; loaded = asked.leaves.loaded };
      same = asked.same;
      told = λ fs answers files programs ready.
          comes_exit (IsOutcomeOf fs answers config (target text)) c.from_residual-in_err-settings.result e
          c.from_residual-in_err-settings.ensures.1
          (inr (
            Err (refusal_of e),
            subst (λ (t : Option Target). IsOutcomeFor fs answers config t (Err (refusal_of e))) (sym one)
                (asked.answer fs answers files programs ready.agrees),
            refl,
          ));
    }

pub returns : goal.returns
returns g c =
    let config = c.args.config.now in
    let text = c.args.text.now in
    let asked = c.in_ok-settings.ensures in
    let settings = shown c.in_ok-settings.settings in
    let one : target_of text ≡ Some (target_at c.in_ok-target.target) = known_one (target_of text) _ _ c.in_ok-target.ensures.target in record {
      left = record { agrees = asked.leaves.agrees; tables = asked.leaves.tables; loaded = asked.leaves.loaded };
      same = asked.same;
      told = λ fs answers files programs ready. (
        Ok settings,
        subst (λ (t : Option Target). IsOutcomeFor fs answers config t (Ok settings)) (sym one)
            (asked.answer fs answers files programs ready.agrees),
        ap Ok c.in_ok-target_lines.ensures,
      );
    }
