use Rattle.std.proofs.Common.{◌≡◌, map, take, string_bytes}
use Rattle.cc2_lint_settings.proofs.setter.pieces.Given as goal

-- the keys that are done
abbrev pub invariant-loop-key : goal.invariant-loop-key
invariant-loop-key l = map (λ p. p.now) l.pieces.items ≡ map string_bytes (take l.key-index l.path)
