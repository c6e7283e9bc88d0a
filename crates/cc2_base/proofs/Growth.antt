-- How many bytes the components of a path have: a longer front never has fewer, and one that ends in a
-- component's last byte has more.
use Rattle.std.proofs.Common.{◌≡◌, ◌≢◌, ℕ, zero, suc, ◌+◌, ◌-◌, ◌≤◌, ◌<◌, List, [], ◌∷◌, ◌++◌}
use Rattle.std.proofs.Common.{length, get_or, take, cond, eqb, ltb, ◌&&◌, ◌||◌, not, Bool, true, false, refl, sym}
use Rattle.std.proofs.Common.{ap, ap₂, subst, ◌∙◌, filter, ne_eqb, eq-eqb, eqb-true, lt-ltb, arith, append_assoc, length-append, length-take, take_all, ⊎_elim}
use Rattle.std.specs.Path.{dot, has_no_slash, is_trailing}
use Rattle.std.proofs.lemmas.List.{take_more, get_or_at, get_or_push, length_push}
use Rattle.std.proofs.lemmas.Bool.{cases_lt, both_ways, and_parts}
use Rattle.cc2_base.specs.Paths.{components_of, is_name, slash}
use Rattle.cc2_base.proofs.Splits.{pieces_one, components_behind, components_slash, components_one, components_empty, components_at_root, last_slash}

-- the bytes of some components
unfoldable pub bulk : List (List ℕ) → ℕ
bulk [] = 0
bulk (c ∷ cs) = length c + bulk cs

bulk-nil : bulk [] ≡ 0
unfolding bulk
bulk-nil = refl

bulk-one : (c : List ℕ) → bulk (c ∷ []) ≡ length c
unfolding bulk
bulk-one c = omega arith

bulk-append : (cs ds : List (List ℕ)) → bulk (cs ++ ds) ≡ bulk cs + bulk ds
unfolding bulk
bulk-append [] ds = omega arith
bulk-append (c ∷ cs) ds = omega (arith, bulk-append cs ds)

abbrev pub weight : List ℕ → ℕ
weight p = bulk (components_of p)

-- the bytes of a piece after a slash
abbrev piece_weight : List ℕ → ℕ
piece_weight v = bulk (filter is_name (v ∷ []))

piece_weight-le : (v : List ℕ) → piece_weight v ≤ length v
piece_weight-le v = by (is_name v)
  where
    by : (t : Bool) → bulk (cond t (v ∷ []) []) ≤ length v
    by true = omega (arith, bulk-one v)
    by false = omega (arith, bulk-nil)

piece_weight-named : (v : List ℕ) → is_name v ≡ true → piece_weight v ≡ length v
piece_weight-named v e = ap (λ t. bulk (cond t (v ∷ []) [])) e ∙ bulk-one v

and_false : (t : Bool) → (t && false) ≡ false
and_false true = refl
and_false false = refl

-- two bytes or more are a name
two_are_name : (c : ℕ) (v : List ℕ) → 0 < length v → is_name (c ∷ v) ≡ true
two_are_name c [] some = absurd (omega arith)
two_are_name c (d ∷ v) some = ap₂ (λ s t. not (s || t)) (ne_eqb (length (c ∷ (d ∷ v))) 0 (λ z. omega arith)) (and_false (eqb c 46))

other_is_name : (b : ℕ) → b ≢ dot → is_name (b ∷ []) ≡ true
other_is_name b other = ap (λ t. not (t && true)) (ne_eqb b dot other)

-- one more byte after a piece
piece_grows : (v : List ℕ) (b : ℕ) → (piece_weight v ≤ piece_weight (v ++ b ∷ [])) × ((v ≡ [] → b ≢ dot) → piece_weight v < piece_weight (v ++ b ∷ []))
piece_grows [] b = (omega (arith, piece_weight-le []), λ h. omega (arith, piece_weight-le [], piece_weight-named (b ∷ []) (other_is_name b (h refl))))
piece_grows (c ∷ v) b =
    let some : 0 < length (v ++ b ∷ []) = omega (arith, length-append v (b ∷ [])) in
    let new : piece_weight (c ∷ (v ++ b ∷ [])) ≡ length (c ∷ (v ++ b ∷ [])) = piece_weight-named (c ∷ (v ++ b ∷ [])) (two_are_name c (v ++ b ∷ []) some) in
    let long : length (v ++ b ∷ []) ≡ length v + 1 = length_push v b in
    (omega (arith, piece_weight-le (c ∷ v)), λ h. omega (arith, piece_weight-le (c ∷ v)))

weight_behind : (u v : List ℕ) → has_no_slash v ≡ true → weight (u ++ slash ∷ v) ≡ weight (u ++ slash ∷ []) + piece_weight v
weight_behind u v h = ap bulk (components_behind u v ∙ ap (λ ps. components_of (u ++ slash ∷ []) ++ filter is_name ps) (pieces_one v h))
    ∙ bulk-append (components_of (u ++ slash ∷ [])) (filter is_name (v ∷ []))

weight_one : (v : List ℕ) → has_no_slash v ≡ true → weight v ≡ length v
weight_one [] h = ap bulk components_empty ∙ bulk-nil
weight_one (b ∷ v) h = ap bulk (components_one (b ∷ v) h ∙ ap (λ t. cond t [] ((b ∷ v) ∷ [])) (ne_eqb (length (b ∷ v)) 0 (λ z. omega arith))) ∙ bulk-one (b ∷ v)

lacks_more : (v : List ℕ) (b : ℕ) → has_no_slash v ≡ true → eqb b slash ≡ false → has_no_slash (v ++ b ∷ []) ≡ true
lacks_more [] b h other = ap (λ t. not t && true) other
lacks_more (c ∷ v) b h other = let parts = and_parts (not (eqb c slash)) (has_no_slash v) h in ap₂ ◌&&◌ parts.0 (lacks_more v b parts.1 other)

-- the last byte of a text is a component's last byte
abbrev pub EndsAt : List ℕ → ℕ → Type 0
EndsAt xs b = is_trailing (xs ++ b ∷ []) (length xs) ≡ false

-- one more byte after a path
abbrev Grows : List ℕ → ℕ → Type 0
Grows xs b = (weight xs ≤ weight (xs ++ b ∷ [])) × (EndsAt xs b → weight xs < weight (xs ++ b ∷ []))

trailing_is : (xs : List ℕ) (b : ℕ) → is_trailing (xs ++ b ∷ []) (length xs) ≡ (ltb 0 (length xs) && (eqb b slash || (eqb b dot && eqb (get_or (xs ++ b ∷ []) (length xs - 1) 0) slash)))
trailing_is xs b = ap (λ c. ltb 0 (length xs) && (eqb c slash || (eqb c dot && eqb (get_or (xs ++ b ∷ []) (length xs - 1) 0) slash))) (get_or_push xs b 0 (length xs) refl)

grows_slash : (xs : List ℕ) → Grows xs slash
grows_slash [] = let empty = ap bulk components_empty ∙ bulk-nil in let root = ap bulk (components_at_root []) ∙ bulk-one (slash ∷ []) in (omega (arith, empty), λ h. omega (arith, empty, root))
grows_slash (c ∷ xs) =
    let same = ap bulk (components_slash (c ∷ xs) (omega arith)) in
    let trails : is_trailing ((c ∷ xs) ++ slash ∷ []) (length (c ∷ xs)) ≡ true = trailing_is (c ∷ xs) slash ∙ ap (λ t. t && true) (lt-ltb 0 (length (c ∷ xs)) (omega arith)) in
    (omega (arith, same), λ h. absurd (both_ways _ h trails))

grows_behind : (u v : List ℕ) (b : ℕ) → has_no_slash v ≡ true → eqb b slash ≡ false → Grows (u ++ slash ∷ v) b
grows_behind u v b h other =
    let whole : (u ++ slash ∷ v) ++ b ∷ [] ≡ u ++ slash ∷ (v ++ b ∷ []) = append_assoc u (slash ∷ v) (b ∷ []) in
    let old = weight_behind u v h in
    let new : weight ((u ++ slash ∷ v) ++ b ∷ []) ≡ weight (u ++ slash ∷ []) + piece_weight (v ++ b ∷ []) = ap weight whole ∙ weight_behind u (v ++ b ∷ []) (lacks_more v b h other) in
    let step = piece_grows v b in
    (omega (arith, old, new, step.0), λ ends. omega (arith, old, new, step.1 (λ e d. apart v b u ends e d)))
  where
    apart : (v : List ℕ) (b : ℕ) (u : List ℕ) → EndsAt (u ++ slash ∷ v) b → v ≡ [] → b ≡ dot → ⊥
    apart v b u ends e d =
        let at : List ℕ = u ++ slash ∷ [] in
        let ends2 : EndsAt (u ++ slash ∷ []) dot = subst (λ w. EndsAt (u ++ slash ∷ w) dot) e (subst (λ c. EndsAt (u ++ slash ∷ v) c) d ends) in
        let before : get_or ((u ++ slash ∷ []) ++ dot ∷ []) (length (u ++ slash ∷ []) - 1) 0 ≡ slash =
        ap (λ l. get_or l (length (u ++ slash ∷ []) - 1) 0) (append_assoc u (slash ∷ []) (dot ∷ []))
        ∙ get_or_at u slash (dot ∷ []) 0 (length (u ++ slash ∷ []) - 1) (omega (arith, length_push u slash)) in
        let some : ltb 0 (length (u ++ slash ∷ [])) ≡ true = lt-ltb 0 (length (u ++ slash ∷ [])) (omega (arith, length_push u slash)) in
        both_ways _ ends2 (trailing_is (u ++ slash ∷ []) dot ∙ ap₂ (λ s t. s && t) some (eq-eqb _ slash before))

grows_other : (xs : List ℕ) (b : ℕ) → eqb b slash ≡ false → Grows xs b
grows_other xs b other = ⊎_elim alone (λ h. subst (λ ys. Grows ys b) (sym h.2) (grows_behind h.0 h.1 b h.3 other)) (last_slash xs)
  where
    alone : has_no_slash xs ≡ true → Grows xs b
    alone h =
        let old = weight_one xs h in
        let new = weight_one (xs ++ b ∷ []) (lacks_more xs b h other) in
        let long = length_push xs b in
        (omega (arith, old, new, long), λ ends. omega (arith, old, new, long))

pub grows : (xs : List ℕ) (b : ℕ) → Grows xs b
grows xs b = by (eqb b slash) refl
  where
    by : (t : Bool) → eqb b slash ≡ t → Grows xs b
    by true e = subst (Grows xs) (sym (eqb-true b slash e)) (grows_slash xs)
    by false e = grows_other xs b e

weight_next : (p : List ℕ) (n : ℕ) → weight (take n p) ≤ weight (take (n + 1) p)
weight_next p n = ⊎_elim
    (λ l. subst (λ q. weight (take n p) ≤ weight q) (sym (take_more p n 0 l)) (grows (take n p) (get_or p n 0)).0)
    (λ l. omega (arith, ap weight {x = take n p} {y = take (n + 1) p} (take_all n p l ∙ sym (take_all (n + 1) p (omega arith)))))
    (cases_lt n (length p))

-- a front is no heavier than a longer one
pub weight_fronts : (p : List ℕ) (m k : ℕ) → weight (take m p) ≤ weight (take (m + k) p)
weight_fronts p m zero = omega (arith, ap (λ n. weight (take n p)) {x = m} {y = m + 0} (omega arith))
weight_fronts p m (suc k) = omega (arith, weight_fronts p m k, weight_next p (m + k), ap (λ n. weight (take n p)) {x = (m + k) + 1} {y = m + suc k} (omega arith))

-- a path with no byte at its end that is no component's
abbrev pub Firm : List ℕ → Type 0
Firm d = (n : ℕ) → length d ≡ n + 1 → is_trailing d n ≡ false

lighter : (d : List ℕ) (n : ℕ) → length d ≡ n + 1 → is_trailing d n ≡ false → weight (take n d) < weight d
lighter d n long ends =
    let split : take n d ++ get_or d n 0 ∷ [] ≡ d = sym (take_more d n 0 (omega arith)) ∙ take_all (n + 1) d (omega arith) in
    let at : length (take n d) ≡ n = omega (arith, length-take n d) in
    let ends_at : EndsAt (take n d) (get_or d n 0) = ap₂ is_trailing split at ∙ ends in
    subst (λ q. weight (take n d) < weight q) split ((grows (take n d) (get_or d n 0)).1 ends_at)

-- a shorter front of such a path has other components
pub others_shorter : (d : List ℕ) (m : ℕ) → Firm d → m < length d → components_of (take m d) ≢ components_of d
others_shorter d m firm l e =
    let n = length d - 1 in
    let step = lighter d n (omega arith) (firm n (omega arith)) in
    let below = weight_fronts d m (n - m) in
    let same : weight (take (m + (n - m)) d) ≡ weight (take n d) = ap (λ k. weight (take k d)) {x = m + (n - m)} {y = n} (omega arith) in
    omega (arith, ap bulk e)
