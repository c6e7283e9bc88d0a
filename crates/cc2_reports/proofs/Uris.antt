-- Which bytes of a path are escaped.
use Rattle.std.proofs.Common.{◌≡◌, ◌∙◌, ℕ, suc, zero, ◌<◌, Bool, true, false, not, List, [], ◌∷◌, ◌++◌, flat_map, ap, sym, refl, arith, subst, ◌⊎◌, inl, inr, ◌≤◌, true≢false}
use Rattle.std.specs.Prelude.{◌||◌, ◌&&◌, if◌then◌else◌}
use Rattle.std.specs.Char.{is_ascii}
use Rattle.percent_encoding.specs.AsciiSet.{contains, should_percent_encode}
use Rattle.percent_encoding.specs.Percent.{percent_encode, percent_encode_byte, encode_byte}
use Rattle.percent_encoding.specs.declared.ascii_set.AsciiSet.{AsciiSet}
use Rattle.std.proofs.lemmas.Bool.{cases_lt}
use Rattle.std.proofs.lemmas.Bool.Decides.{nat_tests}
use Rattle.cc2_reports.specs.Uris.{is_open, is_plain, uri_byte}

-- by whether it is ASCII, a byte is escaped where it isn't plain
escaped_where : (set : AsciiSet) (b : ℕ) (ascii : Bool) → is_ascii b ≡ ascii
    → (b < 128 → contains set b ≡ not (is_open b)) → should_percent_encode set b ≡ not (is_plain b)
unfolding should_percent_encode
escaped_where set b true is h = ap (λ a. not a || contains set b) is ∙ (h (grind (arith, nat_tests, is)) ∙ sym (ap (λ a. not (a && is_open b)) is))
escaped_where set b false is h = ap (λ a. not a || contains set b) is ∙ sym (ap (λ a. not (a && is_open b)) is)

chosen : (plain : Bool) (b : ℕ)
    → (if not plain then percent_encode_byte b else b ∷ []) ≡ (if plain then b ∷ [] else percent_encode_byte b)
chosen true b = refl
chosen false b = refl

byte_is : (set : AsciiSet) (b : ℕ) → (b < 128 → contains set b ≡ not (is_open b)) → encode_byte set b ≡ uri_byte b
unfolding percent_encode_byte
byte_is set b h =
    ap (λ e. if e then percent_encode_byte b else b ∷ []) (escaped_where set b (is_ascii b) refl h) ∙ chosen (is_plain b) b

pub encoded_is : (set : AsciiSet) (bytes : List ℕ) → ((b : ℕ) → b < 128 → contains set b ≡ not (is_open b))
    → percent_encode set bytes ≡ flat_map uri_byte bytes
unfolding percent_encode
encoded_is set [] h = refl
encoded_is set (b ∷ bs) h = ap (λ xs. xs ++ percent_encode set bs) (byte_is set b (h b)) ∙ ap (λ ys. uri_byte b ++ ys) (encoded_is set bs h)

abbrev eqb_Bool : Bool → Bool → Bool
eqb_Bool true b = b
eqb_Bool false b = not b

-- the set has of the first bytes those that aren't open
abbrev pub agrees : AsciiSet → ℕ → Bool
agrees set zero = true
agrees set (suc n) = eqb_Bool (contains set n) (not (is_open n)) && agrees set n

pub eq_from : (a b : Bool) → eqb_Bool a b ≡ true → a ≡ b
eq_from true true e = refl
eq_from false false e = refl
eq_from true false e = absurd (true≢false (sym e))
eq_from false true e = absurd (true≢false (sym e))

first : (a b : Bool) → (a && b) ≡ true → a ≡ true
first true b e = refl
first false b e = e

second : (a b : Bool) → (a && b) ≡ true → b ≡ true
second true b e = e
second false b e = absurd (true≢false (sym e))

-- at the last byte, or at one before it
at : (set : AsciiSet) (n b : ℕ) → agrees set (suc n) ≡ true
    → ((k : ℕ) → k < n → contains set k ≡ not (is_open k)) → (b < n) ⊎ (n ≤ b) → b < suc n → contains set b ≡ not (is_open b)
at set n b e before (inl below) small = before b below
at set n b e before (inr from) small =
    let here : n ≡ b = omega (arith, from, small) in
    subst (λ k. contains set k ≡ not (is_open k)) here
    (eq_from (contains set n) (not (is_open n)) (first (eqb_Bool (contains set n) (not (is_open n))) (agrees set n) e))

pub agreeing : (set : AsciiSet) (n : ℕ) → agrees set n ≡ true → (b : ℕ) → b < n → contains set b ≡ not (is_open b)
agreeing set zero e b small = absurd (omega (arith, small))
agreeing set (suc n) e b small =
    at set n b e (agreeing set n (second (eqb_Bool (contains set n) (not (is_open n))) (agrees set n) e)) (cases_lt b n) small
