-- A copy of kept sets, entry by entry.
use Rattle.std.proofs.Common.{◌≡◌, ℕ, List, [], ◌∷◌, ◌++◌, Some, String, Global, ap, sym, ◌∙◌, cond, string_bytes, option_map, inl, inr}
use Rattle.std.specs.List.Sorted.{IsStrictlySortedBy}
use Rattle.std.specs.Map.{keys_of}
use Rattle.std.specs.Str.{bytes_eq}
use Rattle.std.specs.String.{string_cmp}
use Rattle.std.specs.BTreeMap.{get_by_text, Updates}
use Rattle.cc2_value.proofs.Found.{found, same_keys, found_here, sorted_front, found_before, after_insert, same_bytes}
use Rattle.cc2_rustc.specs.Printed.{atoms_of}
use Rattle.cc2_rustc.specs.declared.cfg_set.CfgSet.{CfgSet}
use Rattle.cc2_rustc.specs.CfgSets.{Sets, kept_set}

abbrev pub Entry : Type 0
Entry = String Global × CfgSet

-- the copies are those of the entries done
abbrev pub IsCopiedSoFar : List Entry → Sets → Type 0
IsCopiedSoFar done copies = (name : List ℕ) → kept_set copies name ≡ option_map atoms_of (found name done)

-- one entry more
pub copied_more : (done : List Entry) (e : Entry) (more : List Entry) (m n : Sets) (key : String Global) (w : CfgSet)
    → IsStrictlySortedBy string_cmp (keys_of (done ++ e ∷ more)) → string_bytes key ≡ string_bytes e.0
    → Updates string_cmp m n key (Some w) → atoms_of w ≡ atoms_of e.1 → IsCopiedSoFar done m
    → IsCopiedSoFar (done ++ e ∷ []) n
copied_more done e more m n key w sorted named inserted same so_far k =
    let bs = string_bytes e.0 in
    let put : (q : List ℕ) → get_by_text n q ≡ cond (bytes_eq bs q) (Some w) (get_by_text m q) =
    λ q. after_insert key w m n inserted q ∙ ap (λ b. cond (bytes_eq b q) (Some w) (get_by_text m q)) named in
    elim (same_keys k bs) [
      | inl is ↦
          let here : found bs (done ++ e ∷ []) ≡ Some e.1 = found_here done e [] (sorted_front done e more sorted) in
          let got : get_by_text n bs ≡ Some w = put bs ∙ ap (λ b. cond b (Some w) (get_by_text m bs)) (same_bytes bs) in
          ap (kept_set n) is ∙ ap (option_map atoms_of) got ∙ ap Some same ∙ ap (option_map atoms_of) (sym here)
          ∙ ap (λ q. option_map atoms_of (found q (done ++ e ∷ []))) (sym is)
      | inr (apart, apart') ↦
          let got : get_by_text n k ≡ get_by_text m k = put k ∙ ap (λ b. cond b (Some w) (get_by_text m k)) apart' in
          ap (option_map atoms_of) got ∙ so_far k ∙ ap (option_map atoms_of) (sym (found_before k done e apart))
    ]
