-- File names by a path's last component, and where their last dot parts them.
use Rattle.std.proofs.Common.{◌≡◌, ℕ, ◌+◌, ◌-◌, ◌≤◌, ◌<◌, List, [], ◌∷◌, ◌++◌, length, get_or, take, drop, cond, eqb, not, Bool, true, false, refl, sym, ap, ap₂}
use Rattle.std.proofs.Common.{◌∙◌, arith, eq-eqb, ne_eqb, get_or-drop, length-take, length-drop, Option, Some, None, ◌||◌, bytes_eq, subst}
use Rattle.std.specs.Path.{path_components, IsLastComponent, is_name, HasNoSlash}
use Rattle.std.specs.declared.path.Component.{Component}
use Rattle.std.specs.declared.path.Component.TheVariants.{RootDir, CurDir, ParentDir, Normal}
use Rattle.std.specs.Option.{option_and_then}
use Rattle.std.specs.Prelude.{IsTrue}
use Rattle.std.specs.List.{slice_get}
use Rattle.std.specs.Str.{NoCharPasses}
use Rattle.std.specs.Str.Pattern.{HasCharAt}
use Rattle.std.specs.List.{before_last, after_last, suffix_len}
use Rattle.std.proofs.lemmas.List.Sums.{suffix_len_is}
use Rattle.std.proofs.lemmas.Str.{len_utf8_ascii}
use Rattle.std.proofs.lemmas.Str.Pattern.{NoCharPasses-char}
use Rattle.std.proofs.lemmas.List.{length_push}
use Rattle.std.proofs.lemmas.Slice.Eq.{bytes_eq-Decides}
use Rattle.cc2_base.specs.Paths.{components_of, file_name_of, as_file_name, is_dot, is_whole}
use Rattle.cc2_base.specs.PathSteps.{name_in}
use Rattle.cc2_base.proofs.Components.{path_components_are}

-- there is no dot from the place n on
abbrev NoneFrom : List ℕ → ℕ → Type 0
NoneFrom name n = (k : ℕ) → n ≤ k → k < length name → not (is_dot (get_or name k 0)) ≡ true

-- where the last dot is just before the place n
dotless : (name : List ℕ) (n : ℕ) → n ≤ length name → NoneFrom name n → (0 < n → not (is_dot (get_or name (n - 1) 0)) ≡ false) → suffix_len (λ b. not (is_dot b)) name ≡ length name - n
dotless name n l after before = suffix_len_is (λ b. not (is_dot b)) name n 0 l after before

pub whole_without_dot : (name : List ℕ) → NoCharPasses (λ b. eqb b 46) name → is_whole name ≡ true
whole_without_dot name h =
    let none : NoneFrom name 0 = λ k l m. ap not (ne_eqb (get_or name k 0) 46 (NoCharPasses-char 46 name k h (omega arith) m)) in
    let tail = dotless name 0 (omega arith) none (λ l. absurd (omega arith)) in
    eq-eqb (length (before_last is_dot name)) 0 (omega (arith, tail, length-take (length name - suffix_len (λ b. not (is_dot b)) name - 1) name))

-- the dot at the place i is the last
pub last_dot_at : (name : List ℕ) (i j : ℕ) → NoCharPasses (λ b. eqb b 46) (drop j name) → HasCharAt 46 name i j → j ≤ length name
    → (take i name ≡ before_last is_dot name) × (drop j name ≡ after_last is_dot name)
last_dot_at name i j none at within =
    let next : j ≡ i + 1 = omega (arith, at.ends, len_utf8_ascii 46 (omega arith)) in
    let after : NoneFrom name j = λ k l m. ap not (ne_eqb (get_or name k 0) 46 (λ e.
    NoCharPasses-char 46 (drop j name) (k - j) none (omega arith) (omega (arith, length-drop j name))
    (get_or-drop j name (k - j) 0 ∙ ap (λ n. get_or name n 0) {x = j + (k - j)} {y = k} (omega arith) ∙ e))) in
    let before : 0 < j → not (is_dot (get_or name (j - 1) 0)) ≡ false =
    λ l. ap not (eq-eqb (get_or name (j - 1) 0) 46 (ap (λ n. get_or name n 0) {x = j - 1} {y = i} (omega arith) ∙ at.byte (omega arith))) in
    let tail = dotless name j within after before in (
      ap (λ n. take n name) {x = i} {y = length name - suffix_len (λ b. not (is_dot b)) name - 1} (omega arith),
      ap (λ n. drop n name) {x = j} {y = length name - suffix_len (λ b. not (is_dot b)) name} (omega arith),
    )

last_item : (cs : List (List ℕ)) (c : List ℕ) → slice_get (cs ++ c ∷ []) (length cs) ≡ Some c
last_item [] c = refl
last_item (d ∷ cs) c = last_item cs c

by_last : (p c : List ℕ) (front : List (List ℕ)) → path_components p ≡ front ++ c ∷ [] → file_name_of p ≡ as_file_name c
unfolding file_name_of
by_last p c front e =
    let is : components_of p ≡ front ++ c ∷ [] = sym (path_components_are p) ∙ e in
    ap (λ cs. option_and_then as_file_name (slice_get cs (length cs - 1))) is
    ∙ ap (λ n. option_and_then as_file_name (slice_get (front ++ c ∷ []) n)) {x = length (front ++ c ∷ []) - 1} {y = length front} (omega (arith, length_push front c))
    ∙ ap (option_and_then as_file_name) (last_item front c)

differs : (xs ys : List ℕ) → (xs ≡ ys → ⊥) → bytes_eq xs ys ≡ false
differs xs ys h = by (bytes_eq xs ys) refl
  where
    by : (t : Bool) → bytes_eq xs ys ≡ t → t ≡ false
    by false e = refl
    by true e = absurd (h ((bytes_eq-Decides xs ys).0 e))

-- the file name is what the last component gives
pub file_name_by : (p : List ℕ) (item : Option Component) (after : List (List ℕ)) → IsLastComponent (path_components p) item after → name_in item ≡ file_name_of p
unfolding file_name_of
file_name_by p None after h = sym (ap (λ cs. option_and_then as_file_name (slice_get cs (length cs - 1))) (sym (path_components_are p) ∙ h.0))
file_name_by p (Some RootDir) after h = sym (by_last p _ after h.0)
file_name_by p (Some CurDir) after h = sym (by_last p _ after h.0)
file_name_by p (Some ParentDir) after h = sym (by_last p _ after h.0)
file_name_by p (Some (Normal name)) after h =
    let c = name.now in
    let root = differs c (47 ∷ []) (λ e. subst HasNoSlash e h.1.2) in
    let here = differs c (46 ∷ []) (λ e. let named = subst (λ l. IsTrue (is_name l)) e h.1.0 in cc) in
    let up = differs c (46 ∷ (46 ∷ [])) h.1.1 in
    sym (by_last p c after h.0 ∙ ap₂ (λ s t. cond (s || t) None (Some c)) root (ap₂ ◌||◌ here up))
