use Rattle.std.proofs.Common.{◌≡◌, ◌++◌, drop, map, string_bytes}
use Rattle.cc2_target_answers.proofs.by_cargo.lent.Given as goal

abbrev pub invariant-loop-text : goal.invariant-loop-text
invariant-loop-text l = map (λ text. text.now) l.all.items ++ map string_bytes (drop l.text-index l.texts) ≡ map string_bytes l.texts
