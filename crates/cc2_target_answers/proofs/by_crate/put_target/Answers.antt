use Rattle.std.proofs.Common.{ap, ◌∙◌}
use Rattle.serde_json.specs.View.{members_view, view}
use Rattle.serde_json.specs.Written.{has_float, members_have_float}
use Rattle.cc2_resolved.specs.ShownTargets.{target_at}
use Rattle.cc2_resolved.specs.TargetConfigs.{shown}
use Rattle.cargo_config2.specs.Kept.{given_of}
use Rattle.cargo_config2.specs.RustcKept.{rustc_command_of}
use Rattle.cc2_target_answers.proofs.Found.{put_exit}
use Rattle.cc2_target_answers.proofs.FreeSettings.{put_free, settings_free}
use Rattle.cc2_target_answers.proofs.by_crate.put_target.Goals as goal

pub returns-in_err-settings-clause-asked : goal.returns-in_err-settings-clause-asked
returns-in_err-settings-clause-asked g c =
    let config = c.args.config.now in
    let asked = c.in_err-settings.ensures in record {
      left = record { agrees = asked.leaves.agrees; tables = asked.leaves.tables; loaded = asked.leaves.loaded };
      same = asked.same;
      told = λ fs answers files programs ready.
          put_exit (given_of config) (rustc_command_of fs config) answers (target_at c.args.target.now) _ _ c.from_residual.result
          c.in_err-settings.field-0.0 c.from_residual.ensures.1 (asked.answer fs answers files programs ready.agrees);
    }

pub returns-clause-free : goal.returns-clause-free
returns-clause-free g c free =
    ap members_have_float c.in_ok-put.ensures.ok
    ∙ put_free c.triple.result.now (view c.in_ok-json.json) (members_view c.args.members.now.entries)
    (ap has_float c.in_ok-json.ensures ∙ settings_free (shown c.in_ok-settings.settings)) free
