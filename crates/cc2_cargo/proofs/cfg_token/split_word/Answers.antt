use Rattle.std.proofs.Common.{◌≡◌, ◌<◌, length, get_or, true}
use Rattle.cc2_cfg.specs.Tokens.{is_word_start}
use Rattle.cc2_cfg.proofs.Words.{run-front, none-next, run-some, run-boundary}
use Rattle.cc2_cargo.proofs.cfg_token.split_word.Goals as goal

pub split_at-requires : goal.split_at-requires
split_at-requires c =
    let some : 0 < length c.as_bytes.result.now = rw c.as_bytes.ensures.value c.requires.some in
    let start : is_word_start (get_or c.as_bytes.result.now 0 0) ≡ true = rw c.as_bytes.ensures.value
    c.requires.start in
    rw c.as_bytes.ensures.value at (run-boundary c.as_bytes.result.now c.word_len.result
    c.as_bytes.ensures.utf8 c.word_len.ensures.within
    (run-some c.as_bytes.result.now c.word_len.result some start c.word_len.ensures.stop) c.word_len.ensures.before)

pub returns-clause-run : goal.returns-clause-run
returns-clause-run c =
    let some : 0 < length c.as_bytes.result.now = rw c.as_bytes.ensures.value c.requires.some in
    let start : is_word_start (get_or c.as_bytes.result.now 0 0) ≡ true = rw c.as_bytes.ensures.value
    c.requires.start in
    rw (c.split_at.ensures.front, ← c.as_bytes.ensures.value)
    (run-front c.as_bytes.result.now c.word_len.result c.word_len.ensures.within
    (run-some c.as_bytes.result.now c.word_len.result some start c.word_len.ensures.stop) start
    c.word_len.ensures.before)

pub returns-clause-ends : goal.returns-clause-ends
returns-clause-ends c =
    rw (c.split_at.ensures.back, ← c.as_bytes.ensures.value)
    (none-next c.as_bytes.result.now c.word_len.result c.word_len.ensures.within c.word_len.ensures.stop)
