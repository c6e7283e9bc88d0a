-- The words of a text, one after another.
use Rattle.std.proofs.Common.{◌≡◌, ◌<◌, ℕ, true, false, ltb, List, [], ◌∷◌, ◌++◌, length, append_assoc, arith, inl, inr, refl, sym, ap, ◌∙◌, subst}
use Rattle.std.proofs.lemmas.Bool.{cases_Bool, ltb-false, ltb-true}
use Rattle.std.proofs.lemmas.List.{append-nil}
use Rattle.std.proofs.lemmas.Str.{IsUtf8-append, IsUtf8-past_char, chars-encodes, chars_from_encodes, encodes-append, encodes-chars, encodes_same}
use Rattle.std.specs.Char.{is_whitespace, is_not_whitespace}
use Rattle.std.specs.Prelude.{if◌then◌else◌}
use Rattle.std.specs.Str.{EmptyOrStartsWithPassing, IsUtf8, NoCharPasses, NonePass, chars}
use mathlib.Core.Bool.{◌&&◌}
use lib.Utf8.{scalar, scalars, encode, encodes, low_scalar}
use Rattle.cc2_cargo_settings.specs.Words.{white_words, word_of_chars, words_from}

is_white : (c : ℕ) → is_not_whitespace c ≡ false → is_whitespace c ≡ true
is_white c e = grind arith

white_scalar : (c : ℕ) → is_whitespace c ≡ true → scalar c ≡ true
white_scalar c e =
    elim (cases_Bool (ltb c 55296)) [
      | inl below ↦ low_scalar c (ltb-true c 55296 below)
      | inr above ↦ let high = ltb-false c 55296 above in grind arith
    ]

whites : (gap : List ℕ) → NonePass is_not_whitespace gap → scalars gap ≡ true
whites [] h = refl
whites (c ∷ gap) h = λ i. white_scalar c (is_white c h.0) i && whites gap h.1 i

-- a text after characters is a text
pub past : (cs rest : List ℕ) → IsUtf8 (encodes cs ++ rest) → IsUtf8 rest
past [] rest u = u
past (c ∷ cs) rest u =
    past cs rest (IsUtf8-past_char (encodes (c ∷ cs) ++ rest) (encodes cs ++ rest) c u (append_assoc (encode c) (encodes cs) rest))

decoded : (cs rest : List ℕ) → scalars cs ≡ true → IsUtf8 rest → chars (encodes cs ++ rest) ≡ cs ++ chars rest
decoded cs rest fit u =
    sym (chars_from_encodes (cs ++ chars rest) (encodes cs ++ rest) (IsUtf8-append (encodes cs) rest (cs, (fit, refl)) u)
    (encodes-append cs (chars rest) ∙ ap (λ bs. encodes cs ++ bs) (encodes-chars rest u)))

-- white space in front of a word is passed over
after_gap : (gap cs : List ℕ) → NonePass is_not_whitespace gap → words_from [] (gap ++ cs) ≡ words_from [] cs
after_gap [] cs h = refl
after_gap (c ∷ gap) cs h =
    ap (λ b. if b then words_from [] (gap ++ cs) else words_from (c ∷ []) (gap ++ cs)) (is_white c h.0) ∙ after_gap gap cs h.1

-- characters that are no white space belong to the word
with_word : (w x cs : List ℕ) → NonePass is_whitespace x → words_from w (x ++ cs) ≡ words_from (w ++ x) cs
with_word w [] cs h = ap (λ v. words_from v cs) (sym (append-nil w))
with_word w (c ∷ x) cs h =
    ap (λ b. if b then word_of_chars w ++ words_from [] (x ++ cs) else words_from (w ++ c ∷ []) (x ++ cs)) h.0
    ∙ with_word (w ++ c ∷ []) x cs h.1 ∙ ap (λ v. words_from v cs) (append_assoc w (c ∷ []) x)

-- nothing is left, or white space comes next
abbrev IsEnd : List ℕ → Type 0
IsEnd [] = Unit {0}
IsEnd (c ∷ cs) = is_whitespace c ≡ true

at_end : (w cs : List ℕ) → IsEnd cs → words_from w cs ≡ word_of_chars w ++ words_from [] cs
at_end w [] h = sym (append-nil (word_of_chars w))
at_end w (c ∷ cs) h =
    ap (λ b. if b then word_of_chars w ++ words_from [] cs else words_from (w ++ c ∷ []) cs) h
    ∙ ap (λ xs. word_of_chars w ++ xs) (sym (ap (λ b. if b then words_from [] cs else words_from (c ∷ []) cs) h))

ended : (rest more : List ℕ) → IsUtf8 rest → EmptyOrStartsWithPassing is_whitespace rest more → IsEnd (chars rest)
ended [] more u h = subst IsEnd (chars_from_encodes [] [] u refl) tt
ended (b ∷ rest) more u h =
    let (c, white, is, fits) = h (omega arith) in
    let one : b ∷ rest ≡ encodes (c ∷ []) ++ more = is ∙ ap (λ x. x ++ more) (sym (append-nil (encode c))) in
    subst IsEnd (sym (ap chars one ∙ decoded (c ∷ []) more (ap (λ t. t && true) fits) (past (c ∷ []) more (subst IsUtf8 one u))))
    white

filled : (cs x : List ℕ) → encodes cs ≡ x → 0 < length x → word_of_chars cs ≡ x ∷ []
filled [] x is long = absurd (subst (λ (y : List ℕ). 0 < length y → ⊥) is (λ none. omega (arith, none)) long)
filled (c ∷ cs) x is long = ap (λ y. y ∷ []) is

-- one word is taken off
pub first_word : (text gap x rest : List ℕ) → IsUtf8 text → text ≡ gap ++ (x ++ rest) → 0 < length x → NoCharPasses is_not_whitespace gap
    → NoCharPasses is_whitespace x → IsUtf8 x → (more : List ℕ) → EmptyOrStartsWithPassing is_whitespace rest more
    → (white_words text ≡ x ∷ white_words rest) × IsUtf8 rest
first_word text gap x rest u cut long (gs, gap_is, white) (cs, x_is, plain) utf8 more next =
    let same : cs ≡ utf8.0 = encodes_same cs utf8.0 (x_is ∙ sym utf8.1.1) in
    let fit : scalars cs ≡ true = ap scalars same ∙ utf8.1.0 in
    let front : text ≡ encodes gs ++ (x ++ rest) = cut ∙ ap (λ g. g ++ (x ++ rest)) (sym gap_is) in
    let after : IsUtf8 (x ++ rest) = past gs (x ++ rest) (subst IsUtf8 front u) in
    let last : IsUtf8 rest = past cs rest (subst (λ y. IsUtf8 (y ++ rest)) (sym x_is) after) in
    let read : chars text ≡ gs ++ (cs ++ chars rest) =
    ap chars front ∙ decoded gs (x ++ rest) (whites gs white) after
    ∙ ap (λ ds. gs ++ ds) (ap (λ y. chars (y ++ rest)) (sym x_is) ∙ decoded cs rest fit last) in (
      ap (words_from []) read ∙ after_gap gs (cs ++ chars rest) white ∙ with_word [] cs (chars rest) plain
          ∙ at_end cs (chars rest) (ended rest more last next) ∙ ap (λ ws. ws ++ white_words rest) (filled cs x x_is long),
      last,
    )

-- white space alone has no words
pub no_words : (rest : List ℕ) → NoCharPasses is_not_whitespace rest → white_words rest ≡ []
no_words rest (gs, is, white) =
    ap (words_from []) (ap chars (sym is) ∙ chars-encodes gs (whites gs white)) ∙ ap (words_from []) (sym (append-nil gs)) ∙ after_gap gs [] white
