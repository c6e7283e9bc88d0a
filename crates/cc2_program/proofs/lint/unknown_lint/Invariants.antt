use Rattle.std.proofs.Common.{◌≡◌, drop, map}
use Rattle.cc2_program.specs.Lints.{first_unknown}
use Rattle.cc2_program.proofs.lint.unknown_lint.Given as goal

-- the words that are left have the answer
abbrev pub invariant-loop-word : goal.invariant-loop-word
invariant-loop-word l =
    first_unknown (map (λ word. word.now) (drop l.word-index l.words)) ≡ first_unknown (map (λ word. word.now) l.fn.words)
