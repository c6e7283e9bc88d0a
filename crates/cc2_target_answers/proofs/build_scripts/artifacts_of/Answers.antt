use Rattle.std.proofs.Common.{true, map}
use Rattle.serde_json.specs.View.{view}
use Rattle.cc2_error.specs.Commands.{command_of}
use Rattle.cc2_cargo_target.specs.HostArtifacts.{artifacts_view}
use Rattle.cc2_target_answers.specs.CargoTargets.{AreAsked}
use Rattle.cc2_target_answers.proofs.Artifacts.{has_artifacts, no_artifacts, no_rustc}
use Rattle.cc2_target_answers.proofs.Found.{comes_exit}
use Rattle.cc2_target_answers.proofs.build_scripts.artifacts_of.Goals as goal

pub returns-in_err-rustc-clause-told : goal.returns-in_err-rustc-clause-told
returns-in_err-rustc-clause-told g c answers before =
    let settings = c.args.sources.settings.now in
    let machine = c.args.sources.machine.now in
    let texts = map (λ text. text.now) c.args.texts.now in
    let e = c.in_err-rustc.field-0.0 in
    comes_exit view (AreAsked settings machine c.args.dir.now texts answers true) c.from_residual.result e c.from_residual.ensures.1
    (no_rustc settings machine c.args.dir.now texts answers e c.in_err-rustc.ensures)

pub returns-in_err-artifacts-clause-told : goal.returns-in_err-artifacts-clause-told
returns-in_err-artifacts-clause-told g c answers before =
    let settings = c.args.sources.settings.now in
    let machine = c.args.sources.machine.now in
    let texts = map (λ text. text.now) c.args.texts.now in
    let e = c.in_err-artifacts.field-0.0 in
    comes_exit view (AreAsked settings machine c.args.dir.now texts answers true) c.from_residual-in_err-artifacts.result e c.from_residual-in_err-artifacts.ensures.1
    (no_artifacts settings machine c.args.dir.now texts answers (command_of c.in_ok-rustc.rustc) c.in_ok-rustc.ensures e
    (c.in_err-artifacts.ensures.target answers before))

pub returns-clause-told : goal.returns-clause-told
returns-clause-told g c answers before =
    let settings = c.args.sources.settings.now in
    let machine = c.args.sources.machine.now in
    let texts = map (λ text. text.now) c.args.texts.now in
    has_artifacts settings machine c.args.dir.now texts answers (command_of c.in_ok-rustc.rustc) c.in_ok-rustc.ensures
    (artifacts_view c.in_ok-artifacts.artifacts) (view c.in_ok-artifacts_json.field-0) (c.in_ok-artifacts.ensures.target answers before)
    c.in_ok-artifacts_json.ensures.json
