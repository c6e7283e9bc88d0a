use Rattle.std.proofs.Common.{◌≡◌, ◌++◌, map, drop, string_bytes}
use Rattle.cc2_base.specs.Paths.{joined}
use Rattle.cc2_reply.proofs.other_paths.push_joined.Given as goal

abbrev pub invariant-loop-word : goal.invariant-loop-word
invariant-loop-word l =
    map string_bytes l.paths.items ++ map (joined l.dir) (map string_bytes (drop l.word-index l.words))
    ≡ map string_bytes l.initial.paths.items ++ map (joined l.dir) (map string_bytes l.words)
