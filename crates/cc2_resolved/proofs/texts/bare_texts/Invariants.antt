use Rattle.std.proofs.Common.{◌≡◌, ◌++◌, map, string_bytes}
use Rattle.std.specs.Vec.Iter.{into_iter_items}
use Rattle.cc2_value.specs.Values.{words_of}
use Rattle.cc2_resolved.specs.Resolving.{texts_of}
use Rattle.cc2_resolved.proofs.texts.bare_texts.Given as goal

abbrev pub invariant-loop-value : goal.invariant-loop-value
invariant-loop-value l =
    map string_bytes l.texts.items ++ texts_of (words_of (into_iter_items l.value-iterator)) ≡ texts_of (words_of l.fn.values.items)
