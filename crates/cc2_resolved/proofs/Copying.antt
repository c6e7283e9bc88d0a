-- Copies of the parts make that of the whole.
use Rattle.std.proofs.Common.{◌≡◌, ℕ, Bool, true, false, cond, List, [], ◌∷◌, Option, None, String, BTreeMap, Global, refl}
use Rattle.std.specs.Str.{bytes_eq}
use Rattle.cc2_value.specs.Cells.{field, name, KeyPath}
use Rattle.cc2_resolved.specs.Answers.{Answer}
use Rattle.cc2_resolved.specs.Copies.{IsSame, AllEmpty, AllSame}
use Rattle.cc2_resolved.specs.Rows.{Row, shown_in, rows_at, entry_shown, names_at, option_shown}
use Rattle.cc2_resolved.proofs.ByName.{AreDone}

either_same : {A : Type 0} (b : Bool) (u v x y : A) → u ≡ v → x ≡ y → cond b u x ≡ cond b v y
either_same true u v x y h k = h
either_same false u v x y h k = k

either_is : {A : Type 0} (b : Bool) (u v x : A) → u ≡ x → v ≡ x → cond b u v ≡ x
either_is true u v x h k = h
either_is false u v x h k = k

module _ {A : Type 0} (a copy : A) where
  row_same : (rows : List (Row A)) → AllSame rows a copy → (k : List ℕ) (p : KeyPath) → shown_in rows copy k p ≡ shown_in rows a k p
  row_same [] h k p = refl
  row_same (r ∷ rs) h k p = either_same (bytes_eq r.key k) _ _ _ _ (h.0.same p) (row_same rs h.1 k p)

  -- a table whose rows show the same shows the same
  pub table_same : (rows : List (Row A)) → AllSame rows a copy → IsSame (rows_at rows) a copy
  table_same rows h = record { same = at }
    where
      at : (p : KeyPath) → rows_at rows copy p ≡ rows_at rows a p
      at [] = refl
      at (field k ∷ p) = row_same rows h k p
      at (name k ∷ p) = refl

  -- the same of a table that is a member of a map
  pub entry_same : (rows : List (Row A)) → AllSame rows a copy → IsSame (entry_shown rows) a copy
  entry_same rows h = record { same = at }
    where
      at : (p : KeyPath) → entry_shown rows copy p ≡ entry_shown rows a p
      at [] = refl
      at (field k ∷ p) = row_same rows h k p
      at (name k ∷ p) = refl

-- a table whose rows show nothing shows nothing
row_empty : {A : Type 0} (rows : List (Row A)) (a : A) → AllEmpty rows a → (k : List ℕ) (p : KeyPath) → shown_in rows a k p ≡ None
row_empty [] a h k p = refl
row_empty (r ∷ rs) a h k p = either_is (bytes_eq r.key k) _ _ None (h.0 p) (row_empty rs a h.1 k p)

pub table_empty : {A : Type 0} (rows : List (Row A)) (a : A) → AllEmpty rows a → (p : KeyPath) → rows_at rows a p ≡ None
table_empty rows a h [] = refl
table_empty rows a h (field k ∷ p) = row_empty rows a h k p
table_empty rows a h (name k ∷ p) = refl

module _ {V : Type 0} (shown : V → KeyPath → Option Answer) where
  -- a member shows the same, or none is there
  abbrev pub IsSameMember : Option V → Option V → Type 0
  IsSameMember o copy = (p : KeyPath) → option_shown shown copy p ≡ option_shown shown o p

  -- a map whose members show the same shows the same
  pub names_same : (map copy : BTreeMap (String Global) V) → AreDone IsSameMember map.entries copy → IsSame (names_at shown) map copy
  names_same map copy done = record { same = at }
    where
      at : (p : KeyPath) → names_at shown copy p ≡ names_at shown map p
      at [] = refl
      at (field k ∷ p) = refl
      at (name k ∷ p) = done k p
