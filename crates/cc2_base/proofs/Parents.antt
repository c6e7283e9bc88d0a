-- The parent of a path, in std's words.
use Rattle.std.proofs.Common.{◌≡◌, ◌≢◌, ℕ, zero, suc, ◌+◌, ◌-◌, ◌≤◌, ◌<◌, List, [], ◌∷◌}
use Rattle.std.proofs.Common.{◌++◌, length, get_or, take, drop, cond, eqb, ◌||◌, Bool, true, false, refl, sym}
use Rattle.std.proofs.Common.{ap, ◌∙◌, eqb-true, arith, length-take, take_all, take-take, ⊎_elim, Option, Some, None, option_map, MatchOption, bytes_eq}
use Rattle.std.specs.Bool.{Decides}
use Rattle.std.specs.List.{find}
use Rattle.std.specs.Path.{root_dir, rfind_below, rsplit_once, parent_and_last, split_last_component, path_parent, trim_trailing}
use Rattle.std.proofs.lemmas.List.{nil_from_length, same_from_push, length_push, take-append-le}
use Rattle.std.proofs.lemmas.Bool.{cond_both, cond-true, cond-false, or_cases, or_parts, eqb-false, cases_eq}
use Rattle.std.proofs.lemmas.Slice.Eq.{bytes_eq-Decides, slice_eq-Decides}
use Rattle.std.proofs.lemmas.Paths.{path_components_parent, take_parent}
use Rattle.cc2_base.specs.Paths.{components_of, parent_of, fronts, is_bare, but_last, same_texts, slash}
use Rattle.cc2_base.proofs.Components.{path_components_are}
use Rattle.cc2_base.proofs.Splits.{components_empty, components_at_root, first_component}
use Rattle.cc2_base.proofs.Growth.{Firm, others_shorter}
use Rattle.cc2_base.proofs.Trimming.{firm-trim, trim-some, trim-first, components-trim}
use Rattle.cc2_base.proofs.Fronts.{find_front}

pub same_texts-Decides : (xs ys : List (List ℕ)) → Decides (same_texts xs ys) (xs ≡ ys)
same_texts-Decides xs ys = slice_eq-Decides bytes_eq-Decides xs ys (same_texts xs ys) refl

-- where no c is found, there is none
abbrev NoneBelow : ℕ → List ℕ → ℕ → Option ℕ → Type 0
NoneBelow c text n found = MatchOption found ((i : ℕ) → i < n → get_or text i 0 ≢ c) (λ _. Unit {0})

none_below_more : (c : ℕ) (text : List ℕ) (n : ℕ) (found : Option ℕ) → get_or text n 0 ≢ c → NoneBelow c text n found → NoneBelow c text (suc n) found
none_below_more c text n None other h = λ i l e. ⊎_elim (λ is. other (ap (λ j. get_or text j 0) (sym is) ∙ e)) (λ below. h i (omega arith) e) (cases_eq i n)
none_below_more c text n (Some k) other h = tt

rfind_none : (c : ℕ) (text : List ℕ) (n : ℕ) → NoneBelow c text n (rfind_below c text n)
rfind_none c text zero = λ i l. absurd (omega arith)
rfind_none c text (suc n) =
    cond_both (eqb (get_or text n 0) c) (Some n) (rfind_below c text n) (NoneBelow c text (suc n))
    (λ e. tt) (λ e. none_below_more c text n _ (eqb-false _ c e) (rfind_none c text n))

firm_root : Firm (slash ∷ [])
firm_root zero long = refl
firm_root (suc n) long = absurd (omega arith)

-- the front before the last component has a firm end, and is empty only where the path has no slash at its head
abbrev IsFront : List ℕ → List ℕ → Type 0
IsFront p d = Firm d × (d ≡ [] → get_or p 0 0 ≢ slash)

not_empty : (d : List ℕ) (G : Type 0) → 0 < length d → d ≡ [] → G
not_empty d G some e = absurd (omega (arith, ap length e))

front_before : (p text : List ℕ) (found : Option ℕ) → 0 < length text → get_or text 0 0 ≡ get_or p 0 0 → NoneBelow slash text (length text) found
    → IsFront p (parent_and_last text (option_map (λ i. (take i text, drop (i + 1) text)) found)).0
front_before p text None some first h = ((λ n long. absurd (omega arith)), λ e is. h 0 some (first ∙ is))
front_before p text (Some i) some first h =
    cond_both (eqb (length (take i text)) 0) root_dir (trim_trailing (take i text)) (IsFront p)
    (λ e. (firm_root, not_empty (slash ∷ []) (get_or p 0 0 ≢ slash) (omega arith)))
    (λ e. (firm-trim (take i text), not_empty (trim_trailing (take i text)) (get_or p 0 0 ≢ slash) (trim-some (take i text) (omega (arith, eqb-false (length (take i text)) 0 e)))))

bare_trimmed : (p : List ℕ) → (eqb (length (trim_trailing p)) 0 || bytes_eq (trim_trailing p) root_dir) ≡ true → is_bare (components_of p) ≡ true
bare_trimmed p e = ⊎_elim
    (λ none. ap is_bare (sym (components-trim p) ∙ ap components_of (nil_from_length _ (eqb-true _ 0 none)) ∙ components_empty))
    (λ root. ap is_bare (sym (components-trim p) ∙ ap components_of ((bytes_eq-Decides (trim_trailing p) root_dir).0 root) ∙ components_at_root []))
    (or_cases _ _ e)

-- a text that something is left of has a byte
some_left : (p : List ℕ) → 0 < length (trim_trailing p) → 0 < length p
unfolding trim_trailing
some_left [] l = absurd (omega arith)
some_left (b ∷ p) l = omega arith

firm_parent : (p : List ℕ) → MatchOption (path_parent p) (is_bare (components_of p) ≡ true) (IsFront p)
unfolding path_parent split_last_component rsplit_once
firm_parent p =
    let text = trim_trailing p in
    cond_both (eqb (length text) 0 || bytes_eq text root_dir) None (Some (parent_and_last text (rsplit_once slash text)))
    (λ r. MatchOption (option_map (λ split. split.0) r) (is_bare (components_of p) ≡ true) (IsFront p))
    (bare_trimmed p)
    (λ e.
    let some : 0 < length text = omega (arith, eqb-false (length text) 0 (or_parts (eqb (length text) 0) (bytes_eq text root_dir) e).0) in
    front_before p text (rfind_below slash text (length text)) some (trim-first p (some_left p some)) (rfind_none slash text (length text)))

-- a path without components is empty
no_components : (p : List ℕ) → components_of p ≡ [] → p ≡ []
no_components [] e = refl
no_components (b ∷ p) e = let first = first_component b p in let h = first.2 in cc

-- a path whose first component is the root begins with a slash
root_alone : (p : List ℕ) → components_of p ≡ (slash ∷ []) ∷ [] → get_or p 0 0 ≡ slash
root_alone [] e = let h = components_empty in cc
root_alone (b ∷ p) e = let first = first_component b p in let h = first.2 in cc

not_bare : (p d last : List ℕ) → components_of p ≡ components_of d ++ last ∷ [] → IsFront p d → is_bare (components_of p) ≡ false
not_bare p d last e front = by (is_bare (components_of p)) refl
  where
    by : (t : Bool) → is_bare (components_of p) ≡ t → t ≡ false
    by false h = refl
    by true h = absurd (⊎_elim
        (λ none. let is = (same_texts-Decides (components_of p) []).0 none in omega (arith, ap length (sym is ∙ e), length_push (components_of d) last))
        (λ root. let is = (same_texts-Decides (components_of p) (root_dir ∷ [])).0 root in
        front.1 (no_components d (sym (same_from_push [] (components_of d) (slash ∷ []) last (sym is ∙ e)).0)) (root_alone p is))
        (or_cases (same_texts (components_of p) []) (same_texts (components_of p) (root_dir ∷ [])) h))

all_but_last : (cs : List (List ℕ)) (last : List ℕ) → but_last (cs ++ last ∷ []) ≡ cs
all_but_last cs last =
    let n = length (cs ++ last ∷ []) - 1 in
    let is : n ≡ length cs = omega (arith, length_push cs last) in
    ap (λ k. take k (cs ++ last ∷ [])) is ∙ take-append-le (length cs) cs (last ∷ []) (omega arith) ∙ take_all (length cs) cs (omega arith)

-- the parent is the shortest front with all components but the last
found_front : (p d last : List ℕ) → components_of p ≡ components_of d ++ last ∷ [] → take (length d) p ≡ d → Firm d
    → find (λ front. same_texts (components_of front) (but_last (components_of p))) (fronts p) ≡ Some d
found_front p d last e at firm =
    let wanted : but_last (components_of p) ≡ components_of d = ap but_last e ∙ all_but_last (components_of d) last in
    let test : List ℕ → Bool = λ front. same_texts (components_of front) (but_last (components_of p)) in
    let long : length d ≤ length p = omega (arith, ap length at, length-take (length d) p) in
    let here : test (take (length d) p) ≡ true = (same_texts-Decides (components_of (take (length d) p)) (but_last (components_of p))).1 (ap components_of at ∙ sym wanted) in
    find_front test p (length d) long here (λ m l. shorter m l wanted) ∙ ap (λ q. Some q) at
  where
    shorter : (m : ℕ) → m < length d → but_last (components_of p) ≡ components_of d → same_texts (components_of (take m p)) (but_last (components_of p)) ≡ false
    shorter m l wanted =
        let same : take m p ≡ take m d = sym (take-take m (length d) p (omega arith)) ∙ ap (take m) at in
        by (same_texts (components_of (take m p)) (but_last (components_of p))) refl (λ is. others_shorter d m firm l (ap components_of (sym same) ∙ is ∙ wanted))
      where
        by : (t : Bool) → same_texts (components_of (take m p)) (but_last (components_of p)) ≡ t → (components_of (take m p) ≡ but_last (components_of p) → ⊥) → t ≡ false
        by false h differs = refl
        by true h differs = absurd (differs ((same_texts-Decides (components_of (take m p)) (but_last (components_of p))).0 h))

pub path_parent_is : (p : List ℕ) → path_parent p ≡ parent_of p
unfolding parent_of
path_parent_is p = by (path_parent p) refl (firm_parent p)
  where
    by : (o : Option (List ℕ)) → path_parent p ≡ o → MatchOption o (is_bare (components_of p) ≡ true) (IsFront p)
        → o ≡ cond (is_bare (components_of p)) None (find (λ front. same_texts (components_of front) (but_last (components_of p))) (fronts p))
    by None e bare = sym (cond-true _ _ _ bare)
    by (Some d) e front =
        let parts = path_components_parent p d e in
        let more : components_of p ≡ components_of d ++ parts.0 ∷ [] = sym (path_components_are p) ∙ parts.1 ∙ ap (λ cs. cs ++ parts.0 ∷ []) (path_components_are d) in
        sym (cond-false _ _ _ (not_bare p d parts.0 more front) ∙ found_front p d parts.0 more (take_parent p d e) front.0)
