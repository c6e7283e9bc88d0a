-- Paths that are one of some.
use Rattle.std.proofs.Common.{◌≡◌, ℕ, Bool, true, false, List, [], ◌∷◌, ◌++◌, ◌||◌, refl, ap, ◌∙◌}
use Rattle.std.proofs.lemmas.List.Elements.{All-nil, All-cons, All-weaker}
use Rattle.std.proofs.lemmas.Slice.Eq.{bytes_eq-Decides}
use Rattle.std.specs.Prelude.{bytes_eq}
use Rattle.cc2_ask.specs.Needs.{is_listed, AreListed}

or_assoc : (b c d : Bool) → (b || (c || d)) ≡ ((b || c) || d)
or_assoc true c d = refl
or_assoc false c d = refl

-- a path is one of two lists
pub listed_either : (path : List ℕ) (ps qs : List (List ℕ)) → is_listed path (ps ++ qs) ≡ (is_listed path ps || is_listed path qs)
listed_either path [] qs = refl
listed_either path (p ∷ ps) qs =
    ap (λ b. bytes_eq path p || b) (listed_either path ps qs)
    ∙ or_assoc (bytes_eq path p) (is_listed path ps) (is_listed path qs)

or_true : (b c : Bool) → c ≡ true → (b || c) ≡ true
or_true true c h = refl
or_true false c h = h

-- paths are one of themselves and of others
pub front_listed : (ps qs : List (List ℕ)) → AreListed (ps ++ qs) ps
front_listed [] qs = All-nil (λ q. is_listed q qs ≡ true)
front_listed (p ∷ ps) qs =
    All-cons (λ q. is_listed q (p ∷ (ps ++ qs)) ≡ true) p ps
    (ap (λ b. b || is_listed p (ps ++ qs)) ((bytes_eq-Decides p p).1 refl))
    (All-weaker (λ q. is_listed q (ps ++ qs) ≡ true) (λ q. is_listed q (p ∷ (ps ++ qs)) ≡ true)
    (λ q h. or_true (bytes_eq q p) (is_listed q (ps ++ qs)) h) ps (front_listed ps qs))
