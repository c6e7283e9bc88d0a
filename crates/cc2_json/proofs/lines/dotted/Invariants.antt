use Rattle.std.proofs.Common.{◌≡◌, codes, map, drop, string_bytes}
use Rattle.cc2_json.specs.TomlLines.{dotted_from}
use Rattle.cc2_json.proofs.lines.dotted.Given as goal

abbrev pub invariant-loop-piece : goal.invariant-loop-piece
invariant-loop-piece l =
    dotted_from (string_bytes l.key) (map (λ p. p.now) (drop l.piece-index l.pieces))
    ≡ dotted_from (codes "") (map (λ p. p.now) l.pieces)
