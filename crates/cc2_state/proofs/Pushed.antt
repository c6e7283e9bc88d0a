-- What is appended piece by piece, where each piece may fail.
use Rattle.std.proofs.Common.{◌≡◌, ◌<◌, ◌+◌, ℕ, suc, List, [], ◌∷◌, ◌++◌, map, take, length, zero, Some, None, refl, sym, ap, subst, ◌∙◌}
use Rattle.std.specs.List.{slice_index_or}
use Rattle.std.proofs.lemmas.List.{take_more, map-append, length-map}
use Rattle.std.specs.Prelude.{option_map, option_and_then}
use Rattle.cc2_ask.specs.Fields.{Front, list_at, number_at, text_at, texts_at}
use Rattle.cc2_ask.specs.Written.{listed_at, many_at, AreAppended, IsAppended}
use Rattle.cc2_ask.proofs.Written.{listed, one_more}

-- one item more of those that were looked at
pub items_more : {X A : Type 0} (view : X → A) (xs : List X) (i : ℕ) (x : X) → i < length xs → x ≡ slice_index_or xs i x
    → map view (take (i + 1) xs) ≡ map view (take i xs) ++ view x ∷ []
items_more view xs i x l is =
    ap (map view) (take_more xs i x l) ∙ map-append view (take i xs) (slice_index_or xs i x ∷ [])
    ∙ ap (λ y. map view (take i xs) ++ view y ∷ []) (sym is)

module _ {X A : Type 0} (view : X → A) (at : List ℕ → Front A) where
  -- one item more was appended
  pub item_appended : (xs : List X) (i : ℕ) (x : X) (was mid now : List ℕ) → i < length xs → x ≡ slice_index_or xs i x
      → AreAppended at (map view (take i xs)) was mid → IsAppended at (view x) mid now → AreAppended at (map view (take (i + 1) xs)) was now
  item_appended xs i x was mid now l is before one =
      subst (λ ys. AreAppended at ys was now) (sym (items_more view xs i x l is)) (one_more at (map view (take i xs)) (view x) was mid now before one)

  -- a number, and so many items after it
  pub items_listed : (xs : List X) (was mid now : List ℕ) → IsAppended number_at (length xs) was mid → AreAppended at (map view xs) mid now
      → IsAppended (listed_at at) (map view xs) was now
  items_listed xs was mid now number are =
      listed at (map view xs) was mid now (subst (λ n. IsAppended number_at n was mid) (sym (length-map xs view)) number) are

-- a text and those after it, by how those are read
abbrev with_more : (List ℕ → Front (List (List ℕ))) → List ℕ × List ℕ → Front (List (List ℕ))
with_more more a = option_map (λ others. (a.0 ∷ others.0, others.1)) (more a.1)

same_more : (one other : List ℕ → Front (List (List ℕ))) → ((rest : List ℕ) → one rest ≡ other rest) → (front : Front (List ℕ))
    → option_and_then (with_more one) front ≡ option_and_then (with_more other) front
same_more one other same None = refl
same_more one other same (Some a) = ap (λ (front : Front (List (List ℕ))). option_map (λ others. (a.0 ∷ others.0, others.1)) front) (same a.1)

-- texts one by one are the texts of a list
many_texts : (n : ℕ) (bytes : List ℕ) → many_at text_at n bytes ≡ texts_at n bytes
many_texts zero bytes = refl
many_texts (suc n) bytes = same_more (many_at text_at n) (texts_at n) (λ rest. many_texts n rest) (text_at bytes)

abbrev by_many : ℕ × List ℕ → Front (List (List ℕ))
by_many n = many_at text_at n.0 n.1

abbrev by_texts : ℕ × List ℕ → Front (List (List ℕ))
by_texts n = texts_at n.0 n.1

list_same : (front : Front ℕ) → option_and_then by_many front ≡ option_and_then by_texts front
list_same None = refl
list_same (Some n) = many_texts n.0 n.1

-- a number and so many texts are a list of texts
pub texts_listed : (texts : List (List ℕ)) (was now : List ℕ) → IsAppended (listed_at text_at) texts was now → IsAppended list_at texts was now
texts_listed texts was now (bytes, is, read) = (bytes, is, λ rest. sym (list_same (number_at (bytes ++ rest))) ∙ read rest)
