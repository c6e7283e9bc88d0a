use Rattle.std.proofs.Common.{Ok, map, ap, sym, ◌∙◌}
use Rattle.cc2_cargo.specs.Raw.{raw_members_at}
use Rattle.cc2_cargo_target.specs.Flags.{texts_read, triple_path}
use Rattle.cc2_cargo_settings.specs.Values.{list_at}
use Rattle.cc2_base.specs.VariableNames.{target_variable}
use Rattle.cc2_cargo_target.proofs.flags.own_flags.Goals as goal

pub returns : goal.returns
returns c =
    let look = raw_members_at c.args.sources.settings.now in
    let machine = c.args.sources.machine.now in
    let triple = c.args.triple.now in
    let path = ap (λ ps. map (λ k. k.now) ps) c.as_slice.ensures.value ∙ c.in_ok-path.ensures ∙ ap (triple_path triple) c.flags_key.ensures in
    let name = c.as_str.ensures.value ∙ c.in_ok-name.ensures ∙ ap (target_variable triple) c.flags_suffix.ensures in
    (λ i. texts_read (list_at look machine (sym path i) (sym name i))) ∙ ap texts_read c.in_ok-set.ensures ∙ ap Ok (sym c.in_ok-word_texts.ensures)
