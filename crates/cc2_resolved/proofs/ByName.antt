-- A map, name by name.
use Rattle.std.proofs.Common.{◌≡◌, ℕ, List, [], ◌∷◌, ◌++◌, Option, Some, Ok, Err, String, BTreeMap, Global, refl, ap, sym, subst, ◌∙◌, cond, string_bytes, inl, inr}
use Rattle.std.specs.List.Sorted.{IsStrictlySortedBy}
use Rattle.std.specs.Map.{keys_of}
use Rattle.std.specs.Str.{bytes_eq}
use Rattle.std.specs.String.{string_cmp}
use Rattle.std.specs.BTreeMap.{get_by_text, Updates}
use Rattle.cc2_error.specs.Causes.{refusal_of}
use Rattle.cc2_error.specs.declared.error.Error.{Error}
use Rattle.cc2_value.specs.Cells.{field, name, Cell, KeyPath}
use Rattle.cc2_value.specs.Shown.{option_at, map_at}
use Rattle.cc2_value.proofs.Found.{found, same_keys, found_here, sorted_front, found_before, after_insert, same_bytes}
use Rattle.cc2_resolved.specs.Answers.{Answer}
use Rattle.cc2_resolved.specs.Sites.{Site}
use Rattle.cc2_resolved.specs.Rows.{Resolving, by_name, names_at, option_shown, IsResolved, IsCause}

module _ {X W : Type 0} (Rel : Option X → Option W → Type 0) where
  -- at each key the map has what the entries done ask for
  abbrev pub AreDone : List (String Global × X) → BTreeMap (String Global) W → Type 0
  AreDone done m = (k : List ℕ) → Rel (found k done) (get_by_text m k)

  -- one entry more, whose key gets w
  pub one_done : (done : List (String Global × X)) (e : String Global × X) (more : List (String Global × X)) (m n : BTreeMap (String Global) W) (key : String Global) (w : W)
      → IsStrictlySortedBy string_cmp (keys_of (done ++ e ∷ more)) → string_bytes key ≡ string_bytes e.0 → Updates string_cmp m n key (Some w)
      → Rel (Some e.1) (Some w) → AreDone done m → AreDone (done ++ e ∷ []) n
  one_done done e more m n key w sorted named inserted is so_far k =
      let bs = string_bytes e.0 in
      let put : (q : List ℕ) → get_by_text n q ≡ cond (bytes_eq bs q) (Some w) (get_by_text m q) =
      λ q. after_insert key w m n inserted q ∙ ap (λ b. cond (bytes_eq b q) (Some w) (get_by_text m q)) named in
      elim (same_keys k bs) [
        | inl same ↦
            let here : found k (done ++ e ∷ []) ≡ Some e.1 = rw same (found_here done e [] (sorted_front done e more sorted)) in
            let got : get_by_text n k ≡ Some w = ap (λ q. get_by_text n q) same ∙ put bs ∙ ap (λ b. cond b (Some w) (get_by_text m bs)) (same_bytes bs) in
            subst (λ (o : Option X). Rel o (get_by_text n k)) (sym here) (subst (λ (o : Option W). Rel (Some e.1) o) (sym got) is)
        | inr (apart, apart') ↦
            let got : get_by_text n k ≡ get_by_text m k = put k ∙ ap (λ b. cond b (Some w) (get_by_text m k)) apart' in
            subst (λ (o : Option X). Rel o (get_by_text n k)) (sym (found_before k done e apart)) (subst (λ (o : Option W). Rel (found k done) o) (sym got) (so_far k))
      ]

module _ {V W : Type 0} (how : Resolving) (site : Site) (look : V → KeyPath → Option Cell) (shown : W → KeyPath → Option Answer) where
  -- a member is resolved, or none is there
  abbrev pub IsMember : Option V → Option W → Type 0
  IsMember o r = (p : KeyPath) → how site (option_at look o) p ≡ Ok (option_shown shown r p)

  pub names_resolved : (map : BTreeMap (String Global) V) (m : BTreeMap (String Global) W) → AreDone IsMember map.entries m → IsResolved (by_name how) site (map_at look map) (names_at shown m)
  names_resolved map m done = record { is = at }
    where
      at : (p : KeyPath) → by_name how site (map_at look map) p ≡ Ok (names_at shown m p)
      at [] = refl
      at (field k ∷ p) = refl
      at (name k ∷ p) = done k p

-- a member that is refused
pub name_refused : {V : Type 0} (how : Resolving) (site : Site) (look : V → KeyPath → Option Cell) (map : BTreeMap (String Global) V)
    (done : List (String Global × V)) (e : String Global × V) (more : List (String Global × V)) (error : Error)
    → map.entries ≡ done ++ e ∷ more → IsStrictlySortedBy string_cmp (keys_of (done ++ e ∷ more))
    → IsCause how site (look e.1) error → IsCause (by_name how) site (map_at look map) error
name_refused how site look map done e more error whole sorted (inl m) = inl m
name_refused how site look map done e more error whole sorted (inr h) =
    let bs = string_bytes e.0 in
    let here : get_by_text map bs ≡ Some e.1 = ap (found bs) whole ∙ found_here done e more sorted in
    inr (name bs ∷ h.0, subst (λ o. how site (option_at look o) h.0 ≡ Err (refusal_of error)) (sym here) h.1)
