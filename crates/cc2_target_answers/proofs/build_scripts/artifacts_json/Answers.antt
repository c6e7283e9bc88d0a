use Rattle.std.proofs.Common.{ap, ◌∙◌}
use Rattle.serde_json.proofs.Views.{view-Object}
use Rattle.serde_json.specs.Data.{no_members, object, put}
use Rattle.serde_json.specs.View.{members_view, view}
use Rattle.serde_json.specs.Written.{has_float, members_have_float}
use Rattle.cc2_resolved.specs.TargetConfigs.{shown}
use Rattle.cc2_target_answers.specs.Settings.{settings_data}
use Rattle.cc2_target_answers.proofs.FreeSettings.{put_free, settings_free}
use Rattle.cc2_target_answers.proofs.build_scripts.artifacts_json.Goals as goal

pub returns-clause-free : goal.returns-clause-free
returns-clause-free c =
    ap has_float (view-Object c.put.new.map) ∙ ap members_have_float c.in_ok-put.ensures.ok
    ∙ put_free c.as_str.result.now (view c.in_ok-json.json) (members_view c.new-members.result.entries)
    (ap has_float c.in_ok-json.ensures ∙ settings_free (shown c.args.artifacts.now.settings))
    (ap (λ es. members_have_float (members_view es)) c.new-members.ensures.empty)

pub returns-clause-json : goal.returns-clause-json
returns-clause-json c =
    view-Object c.put.new.map ∙ ap object
    (c.in_ok-put.ensures.ok
    ∙ ap (λ d. put c.as_str.result.now d (members_view c.new-members.result.entries)) c.in_ok-json.ensures
    ∙ ap (λ es. put c.as_str.result.now (settings_data (shown c.args.artifacts.now.settings)) (members_view es)) c.new-members.ensures.empty
    ∙ ap (λ k. put k (settings_data (shown c.args.artifacts.now.settings)) no_members) c.as_str.ensures.value)
