-- Texts in byte order, as a set of them holds them.
use Rattle.std.proofs.Common.{◌≡◌, ℕ, List, [], ◌∷◌, refl, sym, ap, ◌∙◌, Option, Some, None}
use Rattle.std.specs.Prelude.{map, filter_map, String, string_bytes, bytes_eq}
use Rattle.std.specs.Prelude.{Bool, true, false, ◌||◌, ◌&&◌, if◌then◌else◌}
use Rattle.std.specs.String.{string_cmp}
use Rattle.std.specs.Ordering.{match_ordering, nat_cmp, is_eq}
use Rattle.std.specs.Cmp.Lexicographic.{slice_cmp}
use Rattle.std.specs.BTreeSet.{insert_key}
use Rattle.std.specs.declared.cmp.Ordering.{Ordering}
use Rattle.std.specs.declared.cmp.Ordering.TheVariants.{Less, Equal, Greater}
use Rattle.std.specs.List.{fold, cons_option, list_any, AllByRecursion}
use Rattle.std.specs.List.Sorted.{IsStrictlySortedBy}
use Rattle.std.proofs.Math.Bool.{or-false}
use Rattle.std.proofs.lemmas.Map.Text.{is_eq-slice_cmp}
use Rattle.std.proofs.lemmas.Slice.Eq.{bytes_eq-Decides}
use Rattle.cc2_cfg.specs.Meaning.{Atom, FlagAtom, PairAtom}
use Rattle.cc2_rustc.specs.Printed.{same_atom}
use Rattle.cc2_rustc.specs.Holds.{has}
use Rattle.cc2_rustc.specs.Values.{value_at, with_text, with_value}

match_ordering-map : {A B : Type 0} (f : A → B) (o : Ordering) (x y z : A)
    → f (match_ordering o x y z) ≡ match_ordering o (f x) (f y) (f z)
match_ordering-map f Less x y z = refl
match_ordering-map f Equal x y z = refl
match_ordering-map f Greater x y z = refl

-- a text put into a set
pub insert-text : {Y : Type 0} (keys : List (String Y)) (key : String Y)
    → map string_bytes (insert_key string_cmp keys key) ≡ with_text (map string_bytes keys) (string_bytes key)
insert-text [] key = refl
insert-text (x ∷ xs) key =
    let o = string_cmp key x in
    let here = string_bytes x ∷ map string_bytes xs in
    match_ordering-map (map string_bytes) o (key ∷ (x ∷ xs)) (x ∷ xs) (x ∷ insert_key string_cmp xs key)
    ∙ ap (λ (z : List (List ℕ)). match_ordering o (string_bytes key ∷ here) here (string_bytes x ∷ z)) (insert-text xs key)

-- a value that may be there comes first
pub fold-value : (texts : List (List ℕ)) (found : Option (List ℕ)) (more : List (List ℕ))
    → fold with_text texts (cons_option found more) ≡ fold with_text (with_value texts found) more
fold-value texts None more = refl
fold-value texts (Some text) more = refl

-- ---- the values are those that were printed

same-text : (t x v : List ℕ) → bytes_eq v x ≡ true → bytes_eq t x ≡ bytes_eq t v
same-text t x v e = ap (bytes_eq t) (sym ((bytes_eq-Decides v x).0 e))

or-swap : (a b c : Bool) → (a || (b || c)) ≡ (b || (a || c))
or-swap true true c = refl
or-swap true false c = refl
or-swap false b c = refl

or-twice : (a b c : Bool) → b ≡ a → (b || c) ≡ (a || (b || c))
or-twice true true c e = refl
or-twice true false c e = absurd (cc e)
or-twice false b c e = refl

-- a text is among these with one more, where it is that one or among these
pub any-with_text : (t : List ℕ) (texts : List (List ℕ)) (v : List ℕ)
    → list_any (bytes_eq t) (with_text texts v) ≡ (bytes_eq t v || list_any (bytes_eq t) texts)
any-with_text t [] v = refl
any-with_text t (x ∷ xs) v = at (slice_cmp nat_cmp v x) (any-with_text t xs v) refl
  where
    at : (o : Ordering) → list_any (bytes_eq t) (with_text xs v) ≡ (bytes_eq t v || list_any (bytes_eq t) xs)
        → slice_cmp nat_cmp v x ≡ o
        → list_any (bytes_eq t) (match_ordering o (v ∷ (x ∷ xs)) (x ∷ xs) (x ∷ with_text xs v))
        ≡ (bytes_eq t v || list_any (bytes_eq t) (x ∷ xs))
    at Less more e = refl
    at Equal more e =
        or-twice (bytes_eq t v) (bytes_eq t x) (list_any (bytes_eq t) xs)
        (same-text t x v (sym (is_eq-slice_cmp v x) ∙ ap is_eq e))
    at Greater more e =
        ap (λ (z : Bool). bytes_eq t x || z) more
        ∙ or-swap (bytes_eq t x) (bytes_eq t v) (list_any (bytes_eq t) xs)

-- one printed line
any-value : (t name : List ℕ) (texts : List (List ℕ)) (atom : Atom)
    → list_any (bytes_eq t) (with_value texts (value_at name atom))
    ≡ (same_atom (PairAtom name t) atom || list_any (bytes_eq t) texts)
any-value t name texts (FlagAtom word) = refl
any-value t name texts (PairAtom key value) = by (bytes_eq name key)
  where
    by : (b : Bool) → list_any (bytes_eq t) (with_value texts (if b then Some value else None))
        ≡ ((b && bytes_eq t value) || list_any (bytes_eq t) texts)
    by true = any-with_text t texts value
    by false = refl

-- a text is among the values where it was there or was printed
pub any-values : (t name : List ℕ) (texts : List (List ℕ)) (atoms : List Atom)
    → list_any (bytes_eq t) (fold with_text texts (filter_map (value_at name) atoms))
    ≡ (list_any (bytes_eq t) texts || has atoms (PairAtom name t))
any-values t name texts [] = sym (or-false (list_any (bytes_eq t) texts))
any-values t name texts (atom ∷ atoms) =
    ap (list_any (bytes_eq t)) (fold-value texts (value_at name atom) (filter_map (value_at name) atoms))
    ∙ any-values t name (with_value texts (value_at name atom)) atoms
    ∙ ap (λ (z : Bool). z || has atoms (PairAtom name t)) (any-value t name texts atom)
    ∙ or-turn (same_atom (PairAtom name t) atom) (list_any (bytes_eq t) texts) (has atoms (PairAtom name t))
  where
    or-turn : (a b c : Bool) → ((a || b) || c) ≡ (b || (a || c))
    or-turn true true c = refl
    or-turn true false c = refl
    or-turn false b c = refl

-- ---- and they are in order

above-texts : {Y : Type 0} (x : String Y) (ys : List (String Y)) → AllByRecursion (λ y. string_cmp x y ≡ Less) ys
    → AllByRecursion (λ y. slice_cmp nat_cmp (string_bytes x) y ≡ Less) (map string_bytes ys)
above-texts x [] k = k
above-texts x (y ∷ ys) k = (k.0, above-texts x ys k.1)

pub sorted-texts : {Y : Type 0} (keys : List (String Y)) → IsStrictlySortedBy string_cmp keys
    → IsStrictlySortedBy (slice_cmp nat_cmp) (map string_bytes keys)
unfolding IsStrictlySortedBy
sorted-texts [] h = h
sorted-texts (x ∷ xs) h = (above-texts x xs h.0, sorted-texts xs h.1)
