-- What std takes off a path's end: slashes and `.` after a slash.
use Rattle.std.proofs.Common.{◌≡◌, ℕ, zero, suc, ◌+◌, ◌-◌, ◌≤◌, ◌<◌, List, [], ◌∷◌}
use Rattle.std.proofs.Common.{◌++◌, length, get_or, take, eqb, ltb, ◌&&◌, ◌||◌, true, false, refl, sym}
use Rattle.std.proofs.Common.{ap, ap₂, ◌∙◌, eqb-true, ltb-true, arith, append_assoc, append-nil, length-take, get_or-take, take_all, ⊎_elim}
use Rattle.std.specs.Path.{dot, is_trailing, trimmed_len, trim_trailing}
use Rattle.std.proofs.lemmas.List.{take_more}
use Rattle.std.proofs.lemmas.Bool.{cond_both, and_parts, or_cases}
use Rattle.cc2_base.specs.Paths.{components_of, slash}
use Rattle.cc2_base.proofs.Splits.{components_behind, components_slash}
use Rattle.cc2_base.proofs.Growth.{Firm}

-- what is left: no more than there was, something where there was something, and a firm end
trimmed_len_ends : (p : List ℕ) (n : ℕ) → (trimmed_len p n ≤ n) × (0 < n → 0 < trimmed_len p n) × (0 < trimmed_len p n → is_trailing p (trimmed_len p n - 1) ≡ false)
trimmed_len_ends p zero = (omega arith, (λ l. l), λ l. absurd (omega arith))
trimmed_len_ends p (suc n) =
    cond_both (is_trailing p n) (trimmed_len p n) (suc n) (λ k. (k ≤ suc n) × (0 < suc n → 0 < k) × (0 < k → is_trailing p (k - 1) ≡ false))
    (λ e. let below = trimmed_len_ends p n in
    let some = ltb-true 0 n (and_parts (ltb 0 n) _ e).0 in
    (omega (arith, below.0), (λ _. below.1 some), below.2))
    (λ e. (omega arith, (λ l. omega arith), λ _. ap (is_trailing p) {x = suc n - 1} {y = n} (omega arith) ∙ e))

is_trailing-take : (p : List ℕ) (k i : ℕ) → i < k → is_trailing (take k p) i ≡ is_trailing p i
is_trailing-take p k i l = ap₂ (λ a b. ltb 0 i && (eqb a slash || (eqb a dot && eqb b slash))) (get_or-take k p i 0 l) (get_or-take k p (i - 1) 0 (omega arith))

pub firm-trim : (p : List ℕ) → Firm (trim_trailing p)
unfolding trim_trailing
firm-trim p n long =
    let k = trimmed_len p (length p) in
    let ends = trimmed_len_ends p (length p) in
    let is : k ≡ n + 1 = omega (arith, ends.0, length-take k p) in
    is_trailing-take p k n (omega arith) ∙ ap (is_trailing p) {x = n} {y = k - 1} (omega arith) ∙ ends.2 (omega arith)

pub trim-some : (p : List ℕ) → 0 < length p → 0 < length (trim_trailing p)
unfolding trim_trailing
trim-some p l = let ends = trimmed_len_ends p (length p) in omega (arith, ends.0, ends.1 l, length-take (trimmed_len p (length p)) p)

-- the first byte stays
pub trim-first : (p : List ℕ) → 0 < length p → get_or (trim_trailing p) 0 0 ≡ get_or p 0 0
unfolding trim_trailing
trim-first p l = let ends = trimmed_len_ends p (length p) in get_or-take (trimmed_len p (length p)) p 0 0 (ends.1 l)

dot_adds_none : (u : List ℕ) → components_of ((u ++ slash ∷ []) ++ dot ∷ []) ≡ components_of (u ++ slash ∷ [])
dot_adds_none u = ap components_of (append_assoc u (slash ∷ []) (dot ∷ [])) ∙ components_behind u (dot ∷ []) ∙ append-nil (components_of (u ++ slash ∷ []))

-- a byte that is taken off is no component's
trailing_adds_none : (p : List ℕ) (n : ℕ) → n < length p → is_trailing p n ≡ true → components_of (take (n + 1) p) ≡ components_of (take n p)
trailing_adds_none p n l e =
    let parts = and_parts (ltb 0 n) (eqb (get_or p n 0) slash || (eqb (get_or p n 0) dot && eqb (get_or p (n - 1) 0) slash)) e in
    let some : 0 < n = ltb-true 0 n parts.0 in
    ap components_of (take_more p n 0 l) ∙ ⊎_elim
    (λ s. ap (λ b. components_of (take n p ++ b ∷ [])) (eqb-true _ slash s) ∙ components_slash (take n p) (omega (arith, length-take n p)))
    (λ d.
    let both = and_parts (eqb (get_or p n 0) dot) (eqb (get_or p (n - 1) 0) slash) d in
    let before : take n p ≡ take (n - 1) p ++ slash ∷ [] = ap (λ k. take k p) {x = n} {y = (n - 1) + 1} (omega arith)
    ∙ take_more p (n - 1) 0 (omega arith) ∙ ap (λ b. take (n - 1) p ++ b ∷ []) (eqb-true _ slash both.1) in
    ap (λ b. components_of (take n p ++ b ∷ [])) (eqb-true _ dot both.0) ∙ ap (λ q. components_of (q ++ dot ∷ [])) before ∙ dot_adds_none (take (n - 1) p) ∙ ap components_of (sym before))
    (or_cases _ _ parts.1)

components-trimmed_len : (p : List ℕ) (n : ℕ) → n ≤ length p → components_of (take (trimmed_len p n) p) ≡ components_of (take n p)
components-trimmed_len p zero l = refl
components-trimmed_len p (suc n) l =
    cond_both (is_trailing p n) (trimmed_len p n) (suc n) (λ k. components_of (take k p) ≡ components_of (take (suc n) p))
    (λ e. components-trimmed_len p n (omega arith) ∙ sym (trailing_adds_none p n (omega arith) e) ∙ ap (λ k. components_of (take k p)) {x = n + 1} {y = suc n} (omega arith))
    (λ e. refl)

pub components-trim : (p : List ℕ) → components_of (trim_trailing p) ≡ components_of p
unfolding trim_trailing
components-trim p = components-trimmed_len p (length p) (omega arith) ∙ ap components_of (take_all (length p) p (omega arith))
