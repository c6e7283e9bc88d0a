-- A key as variables have it, character by character and byte by byte.
use Rattle.std.proofs.Common.{◌≡◌, ℕ, ◌+◌, ◌<◌, ◌≤◌, ◌/◌, ◌||◌, List, [], ◌∷◌, ◌++◌, map, Bool, true, false, cond, ltb, eqb, refl, ap, ap₂, sym, ◌∙◌, inl, inr, arith}
use Rattle.std.proofs.lemmas.List.{append_assoc, map-append}
use Rattle.std.proofs.lemmas.Str.{encode_ascii}
use Rattle.std.proofs.lemmas.Str.Ascii.{uppercase_is, uppercase_ascii}
use Rattle.std.proofs.lemmas.Bool.{cases_Bool, ltb-false, ltb-true}
use borrow.Author.Tests.{ne_eqb}
use lib.Utf8.{encode, next}
use Rattle.std.specs.Char.{to_ascii_uppercase}
use Rattle.cc2_base.specs.VariableNames.{in_variable}

-- what isn't ASCII stays
same_above : (b : ℕ) → 128 ≤ b → in_variable b ≡ b
same_above b high =
    rw (ne_eqb b 45 (omega (arith, high)), ne_eqb b 46 (omega (arith, high))) ((uppercase_is b).2 (omega (arith, high)))

upper_by : (mark : Bool) (c : ℕ) → c < 128 → cond mark 95 (to_ascii_uppercase c) < 128
upper_by true c low = omega arith
upper_by false c low = uppercase_ascii c low

upper_ascii : (c : ℕ) → c < 128 → in_variable c < 128
upper_ascii c low = upper_by (eqb c 45 || eqb c 46) c low

one : (b : ℕ) (bs cs : List ℕ) → 128 ≤ b → bs ≡ cs → b ∷ bs ≡ in_variable b ∷ cs
one b bs cs high more = ap₂ (λ x xs. x ∷ xs) (sym (same_above b high)) more

wide : (c : ℕ) (x y z : Bool) → x ≡ false
    → cond x (c ∷ []) (cond y ((192 + c / 64) ∷ next c ∷ []) (cond z ((224 + c / 4096) ∷ next (c / 64) ∷ next c ∷ [])
    ((240 + c / 262144) ∷ next (c / 4096) ∷ next (c / 64) ∷ next c ∷ [])))
    ≡ map in_variable (cond x (c ∷ []) (cond y ((192 + c / 64) ∷ next c ∷ [])
    (cond z ((224 + c / 4096) ∷ next (c / 64) ∷ next c ∷ [])
    ((240 + c / 262144) ∷ next (c / 4096) ∷ next (c / 64) ∷ next c ∷ []))))
wide c true y z no-ascii = cc
wide c false true z no-ascii = one _ _ _ (omega arith) (one _ _ _ (omega arith) refl)
wide c false false true no-ascii = one _ _ _ (omega arith) (one _ _ _ (omega arith) (one _ _ _ (omega arith) refl))
wide c false false false no-ascii =
    one _ _ _ (omega arith) (one _ _ _ (omega arith) (one _ _ _ (omega arith) (one _ _ _ (omega arith) refl)))

wide_stays : (c : ℕ) → ltb c 128 ≡ false → encode c ≡ map in_variable (encode c)
unfolding encode
wide_stays c above = wide c (ltb c 128) (ltb c 2048) (ltb c 65536) above

pub upper_encoded : (c : ℕ) → encode (in_variable c) ≡ map in_variable (encode c)
upper_encoded c =
    elim (cases_Bool (ltb c 128)) [
      | inl below ↦
          let low : c < 128 = ltb-true c 128 below in
          encode_ascii (in_variable c) (upper_ascii c low) ∙ ap (map in_variable) (sym (encode_ascii c low))
      | inr above ↦ ap encode (same_above c (ltb-false c 128 above)) ∙ wide_stays c above
    ]

-- one character more of what is left
pub in_variable_step : (front name later left all rest : List ℕ) (c d : ℕ) → left ≡ encode c ++ rest → d ≡ in_variable c
    → later ≡ name ++ encode d → name ++ map in_variable left ≡ front ++ map in_variable all
    → later ++ map in_variable rest ≡ front ++ map in_variable all
in_variable_step front name later left all rest c d cut is pushed so_far =
    ap (λ l. l ++ map in_variable rest) (pushed ∙ ap (λ x. name ++ encode x) is ∙ ap (λ bs. name ++ bs) (upper_encoded c))
    ∙ append_assoc name (map in_variable (encode c)) (map in_variable rest)
    ∙ ap (λ bs. name ++ bs) (sym (map-append in_variable (encode c) rest) ∙ ap (map in_variable) (sym cut))
    ∙ so_far
