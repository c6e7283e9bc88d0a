-- A copy of a map of variables has the same variables.
use Rattle.std.proofs.Common.{◌≡◌, ℕ, Bool, true, false, cond, List, [], ◌∷◌, Option, Some, option_map, Vec, Global, string_bytes, nat_cmp, vec_len, refl, ap, ◌∙◌}
use Rattle.std.specs.List.{AllZip, each_same}
use Rattle.std.specs.Cmp.Lexicographic.{slice_cmp}
use Rattle.std.specs.Ordering.{is_eq}
use Rattle.cc2_value.proofs.Found.{found}
use Rattle.cc2_env.specs.Kept.{variables_in}
use Rattle.cc2_env.proofs.Keeping.{Entry, Kept}

-- an entry and its copy
abbrev pub IsEntryCopy : Entry → Entry → Type 0
IsEntryCopy e f = (string_bytes f.0 ≡ string_bytes e.0)
    × (AllZip (λ x y. y ≡ x) e.1.items f.1.items × (vec_len f.1 ≡ vec_len e.1))

abbrev among : List Entry → List ℕ → Option (List ℕ)
among es name = option_map (λ value. value.items) (found name es)

either : (b : Bool) (x y : Vec ℕ Global) (r s : Option (Vec ℕ Global)) → y.items ≡ x.items
    → option_map (λ v. v.items) s ≡ option_map (λ v. v.items) r
    → option_map (λ v. v.items) (cond b (Some y) s) ≡ option_map (λ v. v.items) (cond b (Some x) r)
either true x y r s h k = ap Some h
either false x y r s h k = k

copied_among : (name : List ℕ) (es fs : List Entry) → AllZip IsEntryCopy es fs → among fs name ≡ among es name
copied_among name [] [] h = refl
copied_among name [] (f ∷ fs) h = absurd h
copied_among name (e ∷ es) [] h = absurd h
copied_among name (e ∷ es) (f ∷ fs) h =
    ap (λ bs. option_map (λ v. v.items) (cond (is_eq (slice_cmp nat_cmp name bs)) (Some f.1) (found name fs))) h.0.0
    ∙ either (is_eq (slice_cmp nat_cmp name (string_bytes e.0))) e.1 f.1 (found name es) (found name fs)
    (each_same e.1.items f.1.items h.0.1.0) (copied_among name es fs h.1)

pub copied_in : (m n : Kept) → AllZip IsEntryCopy m.entries n.entries → (name : List ℕ)
    → variables_in n name ≡ variables_in m name
copied_in m n h name = copied_among name m.entries n.entries h
