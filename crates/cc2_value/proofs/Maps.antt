-- A map that is read member by member.
use Rattle.std.proofs.Common.{◌≡◌, ℕ, List, [], ◌∷◌, ◌++◌, Option, option_map, String, BTreeMap, Global, refl, ap, sym, ◌∙◌, string_bytes, inl, inr}
use Rattle.std.proofs.lemmas.List.Elements.{Contains-append_left, Contains-append_right}
use Rattle.std.specs.List.Sorted.{IsStrictlySortedBy}
use Rattle.std.specs.Map.{keys_of}
use Rattle.std.specs.String.{string_cmp}
use Rattle.std.specs.BTreeMap.{get_by_text}
use Rattle.toml.specs.View.{view, members_view}
use Rattle.toml.proofs.Views.{Entry, view-lookup}
use Rattle.toml.specs.declared.value.Value.{Value}
use Rattle.cc2_error.specs.declared.error.Error.{Error}
use Rattle.cc2_value.specs.Cells.{field, name, KeyPath, Cell, Origin}
use Rattle.cc2_value.specs.Shown.{map_at}
use Rattle.cc2_value.specs.Ways.{Way, Flaw, cells_in, below, IsDecoded, IsFaultBehind}
use Rattle.cc2_value.specs.Maps.{found, named_cells, named_faults}
use Rattle.cc2_value.proofs.SortedMaps.{AreMade, made_more, made_sorted, built_at_once}

module _ {V : Type 0} (look : V → KeyPath → Option Cell) (w : Way) (origin : Option Origin) where
  -- the cells of the member with a name
  abbrev pub member_at : List ℕ → KeyPath → Option Value → Option Cell
  member_at k p o = cells_in w origin (option_map view o) p

  -- the members are what the entries done are read to, and none of them has a fault
  abbrev pub IsReadSoFar : List Entry → List (String Global × V) → Type 0
  IsReadSoFar done vs = (named_faults w (members_view done) ≡ []) × AreMade look member_at done vs

  faults_last : (done : List Entry) (e : Entry) → named_faults w (members_view done) ≡ [] → w.faults (view e.1) ≡ [] → named_faults w (members_view (done ++ e ∷ [])) ≡ []
  faults_last [] e h k = ap (λ fs. below (name (string_bytes e.0)) fs ++ []) k
  faults_last (d ∷ done) e h k =
      both_empty (below (name (string_bytes d.0)) (w.faults (view d.1))) (named_faults w (members_view done))
      (named_faults w (members_view (done ++ e ∷ []))) h (λ t. faults_last done e t k)
    where
      both_empty : (xs ys zs : List Flaw) → xs ++ ys ≡ [] → (ys ≡ [] → zs ≡ []) → xs ++ zs ≡ []
      both_empty [] ys zs h next = next h
      both_empty (x ∷ xs) ys zs h next = cc

  -- one entry more
  pub read_more : (done : List Entry) (e : Entry) (vs : List (String Global × V)) (v : String Global × V) → string_bytes v.0 ≡ string_bytes e.0
      → IsDecoded look (w.cells origin (view e.1)) (w.faults (view e.1)) v.1 → IsReadSoFar done vs → IsReadSoFar (done ++ e ∷ []) (vs ++ v ∷ [])
  read_more done e vs v named read so_far = (faults_last done e so_far.0 read.0, made_more look member_at done vs e v so_far.1 named (λ p. sym (read.1 p)))

  -- the members are sorted as the entries are
  pub read_sorted : (es : List Entry) (vs : List (String Global × V)) → IsReadSoFar es vs → IsStrictlySortedBy string_cmp (keys_of es) → IsStrictlySortedBy string_cmp (keys_of vs)
  read_sorted es vs so_far sorted = made_sorted look member_at es vs so_far.1 sorted

  -- all entries are read
  pub read_all : (es : List Entry) (vs : List (String Global × V)) (m : BTreeMap (String Global) V) → IsReadSoFar es vs → ((k : List ℕ) → get_by_text m k ≡ found k vs)
      → IsDecoded (map_at look) (named_cells w origin (members_view es)) (named_faults w (members_view es)) m
  read_all es vs m so_far is = (so_far.0, shown)
    where
      shown : (p : KeyPath) → map_at look m p ≡ named_cells w origin (members_view es) p
      shown [] = refl
      shown (field k ∷ p) = refl
      shown (name k ∷ p) = sym (built_at_once look member_at (λ k p. refl) es vs m so_far.1 is k p) ∙ ap (λ o. cells_in w origin o p) (view-lookup k es)

-- the fault of a member is one of the members'
pub member_fault : (w : Way) (done : List Entry) (e : Entry) (more : List Entry) (error : Error)
    → IsFaultBehind [] (below (name (string_bytes e.0)) (w.faults (view e.1))) error → IsFaultBehind [] (named_faults w (members_view (done ++ e ∷ more))) error
member_fault w done e more error (inl m) = inl m
member_fault w [] e more error (inr h) = inr (h.0, Contains-append_left (below (name (string_bytes e.0)) (w.faults (view e.1))) (named_faults w (members_view more)) h.0 h.1, h.2)
member_fault w (d ∷ done) e more error (inr h) =
    elim (member_fault w done e more error (inr h)) [
      | inl m ↦ inl m
      | inr g ↦ inr (g.0, Contains-append_right (below (name (string_bytes d.0)) (w.faults (view d.1))) (named_faults w (members_view (done ++ e ∷ more))) g.0 g.1, g.2)
    ]
