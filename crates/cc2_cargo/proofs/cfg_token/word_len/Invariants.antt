use Rattle.std.proofs.Common.{◌≡◌, ℕ, ◌<◌, get_or, true}
use Rattle.cc2_cfg.specs.Tokens.{is_word_byte}
use Rattle.cc2_cargo.proofs.cfg_token.word_len.Given as goal

abbrev pub invariant-loop-i : goal.invariant-loop-i
invariant-loop-i l = (k : ℕ) → k < l.i → is_word_byte (get_or l.bytes k 0) ≡ true
