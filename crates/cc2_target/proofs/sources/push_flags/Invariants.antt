use Rattle.std.proofs.Common.{◌≡◌, ◌++◌, map, drop, string_bytes}
use Rattle.cc2_target.specs.Sources.{flag_texts}
use Rattle.cc2_target.proofs.sources.push_flags.Given as goal

abbrev pub invariant-loop-flag : goal.invariant-loop-flag
invariant-loop-flag l =
    map string_bytes l.texts.items ++ map (λ f. string_bytes f.val) (drop l.flag-index l.flag-items)
    ≡ map string_bytes l.fn.texts.items ++ flag_texts l.fn.flags
