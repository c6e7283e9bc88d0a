use Rattle.std.proofs.Common.{ℕ, List, map, ap, ◌∙◌, subst}
use Rattle.cc2_error.specs.Outcomes.{Gives}
use Rattle.cc2_cargo_target.specs.Chosen.{runner_by}
use Rattle.cc2_cargo.specs.Raw.{Path, raw_members_at}
use Rattle.cc2_cargo_settings.specs.Shown.{list_view}
use Rattle.cc2_cargo_target.proofs.program.runner_for.Goals as goal

pub returns : goal.returns
returns c =
    let sources = c.args.sources in
    let path = ap (λ ps. map (λ k. k.now) ps) c.as_slice.ensures.value ∙ c.in_ok-path.ensures in
    let name = c.as_str.ensures.value ∙ c.in_ok-name.ensures in
    subst (λ (place : Path × List ℕ). Gives list_view c.runner_by.result
    (runner_by (raw_members_at sources.settings.now) sources.machine.now place.0 place.1))
    (λ i. (path i, name i)) c.runner_by.ensures
