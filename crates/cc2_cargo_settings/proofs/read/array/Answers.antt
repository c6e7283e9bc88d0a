use Rattle.std.proofs.Common.{◌≡◌, None, [], ◌++◌, arith, map, sym, ap, ◌∙◌}
use Rattle.std.proofs.lemmas.Grind.{common_steps}
use Rattle.std.proofs.lemmas.List.{append-nil}
use Rattle.std.specs.Vec.Iter.{into_iter_items}
use Rattle.cc2_value.specs.Values.{words_of}
use Rattle.cc2_cargo.specs.Raw as cell
use Rattle.cc2_cargo.specs.Raw.{raw_value}
use Rattle.cc2_cargo.specs.RawReading.{one_at}
use Rattle.cc2_cargo.proofs.Raws.{raw_array}
use Rattle.cc2_cargo_settings.specs.Changes.{set_by_none, word_value}
use Rattle.cc2_cargo_settings.proofs.read.array.Goals as goal

pub returns-clause-ok : goal.returns-clause-ok
returns-clause-ok c =
    let values = map raw_value c.loop-word.items.items in
    let empty : into_iter_items c.loop-word.word-iterator ≡ [] = grind (arith, common_steps) in
    (λ i p. raw_array (record { items = c.loop-word.items; definition = None; turn = 0 }) p i)
    ∙ ap (λ ss. one_at (cell.array set_by_none ss))
    (sym (append-nil values) ∙ ap (λ ws. values ++ map word_value (words_of ws)) (sym empty) ∙ c.loop-word.invariant)
