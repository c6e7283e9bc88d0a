-- Two paths with the same components, in std's words.
use Rattle.std.proofs.Common.{◌≡◌, List, [], ◌∷◌, ◌++◌, ℕ, Bool, true, false, refl, sym, ap, ◌∙◌, append_assoc, length, length-append, arith, Option, Some, None, is_some, not}
use Rattle.std.specs.Bool.{Decides, one_answer}
use Rattle.std.specs.Path.{path_components, component_bytes, IsLastComponent}
use Rattle.std.specs.declared.path.components.Component.{Component}
use Rattle.std.proofs.lemmas.List.{append_cancel_right}
use Rattle.cc2_base.specs.Paths.{components_of, same_path}
use Rattle.cc2_base.proofs.Components.{path_components_are}
use Rattle.cc2_base.proofs.Parents.{same_texts-Decides}

never_nil : (front : List (List ℕ)) (c : List ℕ) → front ++ c ∷ [] ≡ [] → ⊥
never_nil front c e = omega (arith, ap length e, length-append front (c ∷ []))

-- no item comes just where there is no component
pub none_comes : (before after : List (List ℕ)) (item : Option Component) (none : Bool) → is_some item ≡ not none → IsLastComponent before item after → Decides none (before ≡ [])
none_comes before after None true e h = ((λ t. h.0), λ t. refl)
none_comes before after None false e h = absurd (cc)
none_comes before after (Some c) true e h = absurd (cc)
none_comes before after (Some c) false e h = ((λ t. cc), λ t. absurd (never_nil after (component_bytes c) (sym h.0 ∙ t)))

same_lists : (p q : List ℕ) → Decides (same_path p q) (path_components p ≡ path_components q)
unfolding same_path
same_lists p q =
    let same = same_texts-Decides (components_of p) (components_of q) in
    ((λ e. path_components_are p ∙ same.0 e ∙ sym (path_components_are q)), λ e. same.1 (sym (path_components_are p) ∙ e ∙ path_components_are q))

-- the last text of a list, or another where it is empty
last_or : List ℕ → List (List ℕ) → List ℕ
last_or other [] = other
last_or other (c ∷ cs) = last_or c cs

last_is : (other : List ℕ) (cs : List (List ℕ)) (c : List ℕ) → last_or other (cs ++ c ∷ []) ≡ c
unfolding last_or
last_is other [] c = refl
last_is other (d ∷ cs) c = last_is d cs c

-- a component taken off the end precedes those taken before it
pub taken_off : (whole before after done : List (List ℕ)) (c : List ℕ) → whole ≡ before ++ done → before ≡ after ++ c ∷ [] → whole ≡ after ++ c ∷ done
taken_off whole before after done c e last = e ∙ ap (λ cs. cs ++ done) last ∙ append_assoc after (c ∷ []) done

not_same : (p q : List ℕ) → (path_components p ≡ path_components q → ⊥) → false ≡ same_path p q
not_same p q apart = by (same_path p q) refl
  where
    by : (t : Bool) → same_path p q ≡ t → false ≡ t
    by false e = refl
    by true e = absurd (apart ((same_lists p q).0 e))

-- two paths whose components differ in one place, counted from the end
pub other_last : (p q : List ℕ) (before before' after after' done : List (List ℕ)) (c d : List ℕ) → path_components p ≡ before ++ done → path_components q ≡ before' ++ done → before ≡ after ++ c ∷ [] → before' ≡ after' ++ d ∷ [] → (c ≡ d → ⊥) → false ≡ same_path p q
other_last p q before before' after after' done c d e e' last last' apart =
    not_same p q (λ same.
    let fronts = append_cancel_right before before' done (sym e ∙ same ∙ e') in
    apart (sym (last_is [] after c) ∙ ap (last_or []) (sym last ∙ fronts ∙ last') ∙ last_is [] after' d))

-- a path whose components are the last ones of another
pub fewer : (p q : List ℕ) (before before' after done : List (List ℕ)) (c : List ℕ) → path_components p ≡ before ++ done → path_components q ≡ before' ++ done → before ≡ after ++ c ∷ [] → before' ≡ [] → false ≡ same_path p q
fewer p q before before' after done c e e' last ended =
    not_same p q (λ same.
    let fronts = append_cancel_right before before' done (sym e ∙ same ∙ e') in
    never_nil after c (sym last ∙ fronts ∙ ended))

-- where the ends of two paths are the same, the paths are just where nothing comes before both
pub same_where_done : (p q : List ℕ) (before before' done : List (List ℕ)) (none : Bool) → path_components p ≡ before ++ done → path_components q ≡ before' ++ done → before ≡ [] → Decides none (before' ≡ []) → none ≡ same_path p q
same_where_done p q before before' done none e e' ended nothing =
    one_answer none (same_path p q) (
      (λ h. e ∙ ap (λ cs. cs ++ done) (ended ∙ sym (nothing.0 h)) ∙ sym e'),
      λ same. nothing.1 (sym (append_cancel_right before before' done (sym e ∙ same ∙ e')) ∙ ended),
    )
    (same_lists p q)
