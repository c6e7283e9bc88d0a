use Rattle.std.proofs.Common.{[], ◌∷◌, ◌++◌, append_assoc, ap, sym, ◌∙◌}
use Rattle.std.proofs.lemmas.List.{append-nil}
use Rattle.std.specs.Str.Iter.{split_whitespace_rest}
use Rattle.cc2_cargo_settings.specs.Words.{white_words}
use Rattle.cc2_cargo_settings.proofs.WhiteSpace.{first_word, no_words}
use Rattle.cc2_value.specs.Rows.{texts_of}
use Rattle.cc2_compare.proofs.words.white_words.Goals as goal

pub loop-word-preserved : goal.loop-word-preserved
loop-word-preserved c =
    let (gap, cut, long, white, plain, (more, next)) = c.in-Some.ensures.steps in
    let word = c.in-Some.word.now in
    let all = texts_of c.loop-word.all.items in
    let rest = split_whitespace_rest c.next.new.self in
    let left = white_words rest in
    let (utf8_left, so_far) = c.loop-word.invariant in
    let (one, utf8_rest) = first_word (split_whitespace_rest c.loop-word.word-iterator) gap word rest utf8_left cut long white plain
    c.in_ok-push_word.ensures.utf8 more next in (
      utf8_rest,
      ap (λ ws. ws ++ left) c.in_ok-push_word.ensures.pushed ∙ append_assoc all (word ∷ []) left ∙ ap (λ ts. all ++ ts) (sym one) ∙ so_far,
    )

pub returns : goal.returns
returns c =
    let all = texts_of c.loop-word.all.items in
    sym (append-nil all) ∙ ap (λ ts. all ++ ts) (sym (no_words _ c.in-None.ensures.steps.1)) ∙ c.loop-word.invariant.1
