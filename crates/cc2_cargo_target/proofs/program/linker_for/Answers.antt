use Rattle.std.proofs.Common.{ℕ, List, map, option_map, ap, ◌∙◌, subst}
use Rattle.cc2_error.specs.Outcomes.{Gives}
use Rattle.cc2_value.specs.Values.{word_of}
use Rattle.cc2_cargo.specs.Raw.{Path, raw_members_at}
use Rattle.cc2_cargo_settings.specs.Values.{text_at}
use Rattle.cc2_cargo_target.proofs.program.linker_for.Goals as goal

pub returns : goal.returns
returns c =
    let sources = c.args.sources in
    let path = ap (λ ps. map (λ k. k.now) ps) c.as_slice.ensures.value ∙ c.in_ok-path.ensures in
    let name = c.as_str.ensures.value ∙ c.in_ok-name.ensures in
    subst (λ (place : Path × List ℕ). Gives (option_map word_of) c.text.result
    (text_at (raw_members_at sources.settings.now) sources.machine.now place.0 place.1))
    (λ i. (path i, name i)) c.text.ensures
