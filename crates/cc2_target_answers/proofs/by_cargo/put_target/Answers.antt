use Rattle.std.proofs.Common.{ap, ◌∙◌}
use Rattle.serde_json.specs.Data.{put}
use Rattle.serde_json.specs.View.{members_view, view}
use Rattle.serde_json.specs.Written.{has_float, members_have_float}
use Rattle.cc2_resolved.specs.TargetConfigs.{shown}
use Rattle.cc2_target_answers.proofs.FreeSettings.{put_free, settings_free}
use Rattle.cc2_target_answers.proofs.by_cargo.put_target.Goals as goal

pub returns-clause-free : goal.returns-clause-free
returns-clause-free g c free =
    ap members_have_float c.in_ok-put.ensures.ok
    ∙ put_free c.args.triple.now (view c.in_ok-json.json) (members_view c.args.members.now.entries)
    (ap has_float c.in_ok-json.ensures ∙ settings_free (shown c.in_ok-settings.settings)) free

pub returns-clause-told : goal.returns-clause-told
returns-clause-told g c answers told = (
  shown c.in_ok-settings.settings,
  c.in_ok-settings.ensures.target answers told,
  c.in_ok-put.ensures.ok ∙ ap (λ d. put c.args.triple.now d (members_view c.args.members.now.entries)) c.in_ok-json.ensures,
)
