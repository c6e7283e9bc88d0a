use Rattle.std.proofs.Common.{◌∙◌, ap}
use Rattle.serde_json.proofs.Views.{view-Object}
use Rattle.serde_json.specs.View.{members_view}
use Rattle.cc2_resolved.specs.TargetConfigs.{shown}
use Rattle.cc2_target_answers.proofs.Shown.{command_shown, flags_shown, settings_put, text_shown}
use Rattle.cc2_target_answers.proofs.settings.settings_json.Goals as goal

pub returns : goal.returns
returns c =
    let settings = c.args.settings.now in
    view-Object c.put_some-4.new.members ∙
    settings_put (shown settings) (ap members_view c.new-members.ensures.empty)
    (c.in_ok-linker.ensures ∙ text_shown settings.linker) c.in_ok-put_some.ensures
    (c.in_ok-runner.ensures ∙ command_shown settings.runner) c.in_ok-put_some-2.ensures
    (c.in_ok-rustflags.ensures ∙ flags_shown settings.rustflags) c.in_ok-put_some-3.ensures
    (c.in_ok-rustdocflags.ensures ∙ flags_shown settings.rustdocflags) c.in_ok-put_some-4.ensures
