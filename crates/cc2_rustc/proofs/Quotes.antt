-- A value between two `"`.
use Rattle.std.proofs.Common.{◌≡◌, ℕ, ◌-◌, List, [], ◌∷◌, ◌++◌, length, get_or, refl, sym, ap, ◌∙◌, arith}
use Rattle.std.proofs.Common.{Option, Some, None}
use Rattle.std.specs.Prelude.{Bool, true, false, ◌≢◌, MatchOption, option_map, ◌==◌, ◌&&◌, nat_le}
use Rattle.std.specs.Borrow.{Bor}
use Rattle.std.proofs.lemmas.Grind.{common_steps}
use borrow.Author.Tests.{ne_eqb}
use Rattle.cc2_rustc.specs.Printed.{is_quoted, inside}

not_quoted-none : (value : List ℕ) → is_quoted value ≡ false → inside value ≡ None
not_quoted-none value e = rw e refl

and-false : (a b c : Bool) → b ≡ false → (a && b && c) ≡ false
and-false true b c e = rw e refl
and-false false b c e = refl

and-last : (a b c : Bool) → c ≡ false → (a && b && c) ≡ false
and-last true true c e = e
and-last true false c e = refl
and-last false b c e = refl

-- it doesn't begin with `"`
pub inside-none : (value : List ℕ) → ((rest : List ℕ) → value ≢ 34 ∷ rest) → inside value ≡ None
inside-none [] h = refl
inside-none (b ∷ bs) h =
    let first = ne_eqb b 34 (λ e. h bs (ap (λ z. z ∷ bs) e)) in
    not_quoted-none (b ∷ bs) (and-false _ _ _ first)

-- the front and the last of a list that isn't empty
last-of : (b : ℕ) (bs : List ℕ) → (front : List ℕ) × (b ∷ bs ≡ front ++ get_or (b ∷ bs) (length bs) 0 ∷ [])
last-of b [] = ([], refl)
last-of b (c ∷ bs) = let p = last-of c bs in (b ∷ p.0, ap (λ (z : List ℕ). b ∷ z) p.1)

-- it doesn't end with another `"`
inside-open : (rest : List ℕ) → ((front : List ℕ) → rest ≢ front ++ 34 ∷ []) → inside (34 ∷ rest) ≡ None
inside-open [] h = refl
inside-open (b ∷ bs) h =
    let value : List ℕ = 34 ∷ (b ∷ bs) in
    let p = last-of b bs in
    let i : length value - 1 ≡ length (b ∷ bs) = omega arith in
    let other = ne_eqb (get_or (b ∷ bs) (length bs) 0) 34 (λ e. h p.0 (p.1 ∙ ap (λ (z : ℕ). p.0 ++ z ∷ []) e)) in
    let last : (get_or value (length value - 1) 0 == 34) ≡ false = rw i other in
    not_quoted-none value (and-last (nat_le 2 (length value)) true (get_or value (length value - 1) 0 == 34) last)

inside-both : (text : List ℕ) → inside (34 ∷ (text ++ 34 ∷ [])) ≡ Some text
inside-both text = grind (arith, common_steps)

-- what is between the first `"` and the last
pub inside-ends : (value rest : List ℕ) (r : Option (Bor (List ℕ))) → value ≡ 34 ∷ rest
    → MatchOption r ((front : List ℕ) → rest ≢ front ++ 34 ∷ []) (λ x. rest ≡ x.now ++ 34 ∷ [])
    → option_map (λ x. x.now) r ≡ inside value
inside-ends value rest None e h = sym (ap inside e ∙ inside-open rest h)
inside-ends value rest (Some x) e h = sym (ap inside e ∙ ap (λ (z : List ℕ). inside (34 ∷ z)) h ∙ inside-both x.now)
