use Rattle.std.proofs.Common.{◌≡◌, [], ◌∷◌, ◌++◌, arith, append_assoc, ap, sym, ◌∙◌, subst}
use Rattle.std.proofs.lemmas.Grind.{common_steps}
use Rattle.std.proofs.lemmas.List.{append-nil, map-append}
use Rattle.std.proofs.lemmas.Str.{IsUtf8-string_bytes}
use Rattle.std.specs.Str.{IsUtf8}
use Rattle.std.specs.Str.Iter.{split_whitespace_rest}
use Rattle.cc2_value.specs.Cells.{Word}
use Rattle.cc2_value.specs.Copies.{origin_given}
use Rattle.cc2_value.specs.Values.{word_of, words_of}
use Rattle.cc2_cargo_settings.specs.Words.{white_words, words_set}
use Rattle.cc2_cargo_settings.proofs.WhiteSpace.{first_word, no_words}
use Rattle.cc2_cargo_settings.proofs.words.push_words.Goals as goal

pub loop-word-preserved : goal.loop-word-preserved
loop-word-preserved c =
    let (gap, cut, long, white, plain, (more, next)) = c.in-Some.ensures.steps in
    let value = c.in_ok-text_at.field-0 in
    let origin = origin_given c.args.definition in
    let words = c.loop-word.words.items in
    let rest = split_whitespace_rest c.next.new.self in
    let left = white_words rest in
    let text = split_whitespace_rest c.loop-word.word-iterator in
    let utf8 : IsUtf8 c.in-Some.word.now = subst IsUtf8 (ap (λ (w : Word). w.text) c.in_ok-text_at.ensures.ok) (IsUtf8-string_bytes value.val) in
    let (utf8_left, so_far) = c.loop-word.invariant in
    let (one, utf8_rest) = first_word text gap c.in-Some.word.now rest utf8_left cut long white plain utf8 more next in
    let pushed : c.push.new.self.items ≡ words ++ value ∷ [] = grind (arith, common_steps) in (
      utf8_rest,
      ap (λ vs. words_of vs ++ words_set origin left) pushed ∙ ap (λ ws. ws ++ words_set origin left) (map-append word_of words (value ∷ []))
          ∙ append_assoc (words_of words) (word_of value ∷ []) (words_set origin left)
          ∙ ap (λ (w : Word). words_of words ++ w ∷ words_set origin left) c.in_ok-text_at.ensures.ok
          ∙ ap (λ ts. words_of words ++ words_set origin ts) (sym one) ∙ so_far,
    )

pub returns-clause-words : goal.returns-clause-words
returns-clause-words c =
    let origin = origin_given c.args.definition in
    let words = words_of c.loop-word.words.items in
    sym (append-nil words) ∙ ap (λ ts. words ++ words_set origin ts) (sym (no_words _ c.in-None.ensures.steps.1)) ∙ c.loop-word.invariant.1
