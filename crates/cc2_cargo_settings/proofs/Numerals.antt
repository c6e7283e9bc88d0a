-- What `parse` reads of a text is the number that it writes.
use Rattle.std.proofs.Common.{◌≡◌, ℕ, ℤ, pos, negsuc, neg_ℤ, zero, suc, ◌<◌, ◌≤◌, ◌+◌, ◌^◌, Bool, true, false, cond, ◌&&◌, List, [], ◌∷◌}
use Rattle.std.proofs.Common.{Option, Some, None, Result, Ok, Err, length, option_map, option_and_then, rules, arith, refl, sym, ap, ◌∙◌, inl, inr}
use Rattle.std.specs.Prelude.{leb, eqb}
use Rattle.std.specs.Bool.{Decides}
use Rattle.std.specs.Result.{OkIff, result_ok}
use Rattle.std.specs.Str.{all_ascii_digits}
use Rattle.std.specs.Str.Parse.{ParsesSigned}
use Rattle.std.proofs.lemmas.Bool.Decides.{eqb_tells, leb_tells}
use Rattle.std.proofs.lemmas.Str.Parse.{IsNumeralModel, numerals_by_fold, parse_signed_plain, parse_signed_plus, parse_signed_minus}
use mir.Syntax.{w64}
use Rattle.cc2_value.specs.Decimals.{read_on, digits_read}
use Rattle.cc2_cargo_settings.specs.Scalars.{int64_of, int64_text}

abbrev int64_in : Option ℤ → Option ℤ
int64_in o = option_and_then int64_of o

own : IsNumeralModel (λ ds. all_ascii_digits ds ≡ true) (read_on 0)
own = numerals_by_fold _ (search rules) read_on (search rules)

gives : {T E P : Type 0} (r : Result T E) (x : T) (b : Bool) → Decides b P → OkIff r P x → result_ok r ≡ cond b (Some x) None
gives (Ok y) x true d h = ap (λ z. Some z) h.1
gives (Ok y) x false d h = let both : false ≡ true = d.1 h.0 in cc
gives (Err e) x true d h = absurd (h (d.0 refl))
gives (Err e) x false d h = refl

at_most : (v n m : ℕ) → m ≡ n + 1 → Decides (leb v n) (v < m)
at_most v n m e =
    elim (leb_tells v n) [
      | inl within ↦ ((λ t. omega (arith, within.1, e)), λ p. within.0)
      | inr past ↦ ((λ t. let both : false ≡ true = sym past.0 ∙ t in cc), λ p. absurd (omega (arith, past.1, p, e)))
    ]

above_by : {E : Type 0} (a : Bool) (v n : ℕ) (r : Result ℤ E) → 0 < n → OkIff r ((a ≡ true) × (0 < n) × (v < 2 ^ 63)) (pos v) → result_ok r ≡ int64_in (option_map pos (cond a (Some v) None))
above_by true v n r some h =
    let d = at_most v 9223372036854775807 (2 ^ 63) refl in
    gives r (pos v) (leb v 9223372036854775807) ((λ t. (refl, some, d.0 t)), λ p. d.1 p.2) h
above_by false v n (Ok x) some h = let both : false ≡ true = h.0.0 in cc
above_by false v n (Err e) some h = refl

above_digits : {E : Type 0} (ds : List ℕ) (r : Result ℤ E)
    → OkIff r ((all_ascii_digits ds ≡ true) × (0 < length ds) × (read_on 0 ds < 2 ^ 63)) (pos (read_on 0 ds))
    → result_ok r ≡ int64_in (option_map pos (digits_read ds))
above_digits [] (Ok x) h = absurd (omega (arith, h.0.1))
above_digits [] (Err e) h = refl
above_digits (c ∷ cs) r h = above_by (all_ascii_digits (c ∷ cs)) (read_on 0 (c ∷ cs)) (length (c ∷ cs)) r (omega arith) h

and_true : {P : Type 0} (b : Bool) → Decides b P → Decides (b && true) P
and_true true d = d
and_true false d = d

below_by : {E : Type 0} (a : Bool) (v n : ℕ) (r : Result ℤ E) → 0 < n → OkIff r ((a ≡ true) × (0 < n) × (v ≤ 2 ^ 63))
    (neg_ℤ (pos v)) → result_ok r ≡ int64_in (option_map (λ m. neg_ℤ (pos m)) (cond a (Some v) None))
below_by true zero n r some h = gives r (pos 0) true ((λ t. (refl, some, omega arith)), λ p. refl) h
below_by true (suc v) n r some h =
    let d = and_true (leb v 9223372036854775807) (at_most v 9223372036854775807 (2 ^ 63) refl) in
    gives r (negsuc v) (leb v 9223372036854775807 && true) ((λ t. (refl, some, omega (arith, d.0 t))), λ p. d.1 (omega (arith, p.2))) h
below_by false v n (Ok x) some h = let both : false ≡ true = h.0.0 in cc
below_by false v n (Err e) some h = refl

below_digits : {E : Type 0} (ds : List ℕ) (r : Result ℤ E)
    → OkIff r ((all_ascii_digits ds ≡ true) × (0 < length ds) × (read_on 0 ds ≤ 2 ^ 63)) (neg_ℤ (pos (read_on 0 ds)))
    → result_ok r ≡ int64_in (option_map (λ m. neg_ℤ (pos m)) (digits_read ds))
below_digits [] (Ok x) h = absurd (omega (arith, h.0.1))
below_digits [] (Err e) h = refl
below_digits (c ∷ cs) r h = below_by (all_ascii_digits (c ∷ cs)) (read_on 0 (c ∷ cs)) (length (c ∷ cs)) r (omega arith) h

abbrev signs : Bool → Bool → ℕ → List ℕ → Option ℤ
signs minus plus c cs = cond minus (option_map (λ n. neg_ℤ (pos n)) (digits_read cs)) (option_map pos (cond plus (digits_read cs) (digits_read (c ∷ cs))))

pub int64_parsed : {E : Type 0} (bs : List ℕ) (r : Result ℤ E) → ParsesSigned w64 10 bs r → result_ok r ≡ int64_text bs
int64_parsed [] r h = above_digits [] r (parse_signed_plain own w64 [] r h (λ e. omega (arith, e)) (λ e. omega (arith, e)))
int64_parsed (c ∷ cs) r h =
    elim (eqb_tells c 45) [
      | inl minus ↦
          below_digits cs r (parse_signed_minus own w64 (c ∷ cs) r h minus.1)
          ∙ ap (λ (b : Bool). int64_in (signs b (eqb c 43) c cs)) (sym minus.0)
      | inr no_minus ↦
          elim (eqb_tells c 43) [
            | inl plus ↦
                above_digits cs r (parse_signed_plus own w64 (c ∷ cs) r h plus.1)
                ∙ ap (λ (b : Bool). int64_in (signs false b c cs)) (sym plus.0)
                ∙ ap (λ (b : Bool). int64_in (signs b (eqb c 43) c cs)) (sym no_minus.0)
            | inr no_plus ↦
                above_digits (c ∷ cs) r (parse_signed_plain own w64 (c ∷ cs) r h no_plus.1 no_minus.1)
                ∙ ap (λ (b : Bool). int64_in (signs false b c cs)) (sym no_plus.0)
                ∙ ap (λ (b : Bool). int64_in (signs b (eqb c 43) c cs)) (sym no_minus.0)
          ]
    ]
