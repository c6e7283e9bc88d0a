use Rattle.std.proofs.Common.{◌≡◌, option_map}
use Rattle.std.specs.Vec.Iter.{into_iter_items}
use Rattle.toml.specs.View.{items_view}
use Rattle.cc2_value.specs.Values.{words_of}
use Rattle.cc2_value.specs.Copies.{origin_given}
use Rattle.cc2_leaf.specs.Lists.{words_at, texts_of, behind}
use Rattle.cc2_leaf.proofs.texts.array_texts.Given as goal

abbrev pub invariant-loop-item : goal.invariant-loop-item
invariant-loop-item l =
    option_map (words_at (origin_given l.definition)) (texts_of (items_view l.fn.items.items))
    ≡ behind (words_of l.values.items) (option_map (words_at (origin_given l.definition)) (texts_of (items_view (into_iter_items l.item-iterator))))
