-- A map that a loop builds, entry by entry, from a list that is sorted by its keys.
use Rattle.std.proofs.Common.{◌≡◌, ℕ, List, [], ◌∷◌, ◌++◌, Option, Some, String, BTreeMap, Global, ap, sym, ◌∙◌, cond, string_bytes, inl, inr}
use Rattle.std.specs.List.Sorted.{IsStrictlySortedBy}
use Rattle.std.specs.Map.{keys_of}
use Rattle.std.specs.Str.{bytes_eq}
use Rattle.std.specs.String.{string_cmp}
use Rattle.std.specs.BTreeMap.{get_by_text, Updates}
use Rattle.cc2_value.specs.Cells.{Cell, KeyPath}
use Rattle.cc2_value.specs.Shown.{option_at}
use Rattle.cc2_value.proofs.Found.{found, same_keys, found_here, sorted_front, found_before, after_insert, same_bytes}

module _ {X V : Type 0} (look : V → KeyPath → Option Cell) (seen : List ℕ → KeyPath → Option X → Option Cell) where
  -- at each key the map shows what `seen` says of the entries done
  abbrev pub IsBuilt : List (String Global × X) → BTreeMap (String Global) V → Type 0
  IsBuilt done m = (k : List ℕ) (p : KeyPath) → seen k p (found k done) ≡ option_at look (get_by_text m k) p

  -- one entry more, whose key gets w
  pub built_more : (done : List (String Global × X)) (e : String Global × X) (more : List (String Global × X))
      (m n : BTreeMap (String Global) V) (key : String Global) (w : V)
      → IsStrictlySortedBy string_cmp (keys_of (done ++ e ∷ more)) → string_bytes key ≡ string_bytes e.0 → Updates string_cmp m n key (Some w)
      → ((p : KeyPath) → seen (string_bytes e.0) p (Some e.1) ≡ look w p)
      → IsBuilt done m → IsBuilt (done ++ e ∷ []) n
  built_more done e more m n key w sorted named inserted node so_far k p =
      let bs = string_bytes e.0 in
      let put : (q : List ℕ) → get_by_text n q ≡ cond (bytes_eq bs q) (Some w) (get_by_text m q) =
      λ q. after_insert key w m n inserted q ∙ ap (λ b. cond (bytes_eq b q) (Some w) (get_by_text m q)) named in
      elim (same_keys k bs) [
        | inl same ↦
            let here : found bs (done ++ e ∷ []) ≡ Some e.1 = found_here done e [] (sorted_front done e more sorted) in
            let got : get_by_text n bs ≡ Some w = put bs ∙ ap (λ b. cond b (Some w) (get_by_text m bs)) (same_bytes bs) in
            ap (λ q. seen q p (found q (done ++ e ∷ []))) same ∙ ap (seen bs p) here ∙ node p ∙ ap (λ o. option_at look o p) (sym got) ∙ ap (λ q. option_at look (get_by_text n q) p) (sym same)
        | inr (apart, apart') ↦
            let got : get_by_text n k ≡ get_by_text m k = put k ∙ ap (λ b. cond b (Some w) (get_by_text m k)) apart' in
            ap (seen k p) (found_before k done e apart) ∙ so_far k p ∙ ap (λ o. option_at look o p) (sym got)
      ]
