-- A table is ranked where each of its fields is, and refused where one is.
use Rattle.std.proofs.Common.{◌≡◌, ℕ, Bool, true, false, cond, List, [], ◌∷◌, Option, refl, subst, inl, inr}
use Rattle.std.specs.Str.{bytes_eq}
use Rattle.cc2_error.specs.declared.error.Error.{Error}
use Rattle.cc2_value.specs.Cells.{field, name, KeyPath, Cell}
use Rattle.cc2_value.specs.Shown.{Field, field_at, fields_at}
use Rattle.cc2_env.specs.Kept.{Variables}
use Rattle.cc2_env.specs.Ranked.{Ranking, Row, row_at, by_field, IsRanked, IsRankCause, AllRanked, IsRankCauseAt}

chosen : (b : Bool) (row other : Ranking) (vars : Variables) (u v : KeyPath → Option Cell) (x y : Option Cell)
    (p : KeyPath)
    → x ≡ row.cells vars u p → y ≡ other.cells vars v p → cond b x y ≡ (cond b row other).cells vars
    (λ q. cond b (u q) (v q)) p
chosen true row other vars u v x y p h k = h
chosen false row other vars u v x y p h k = k

chosen_refusals : (b : Bool) (row other : Ranking) (vars : Variables) (u v : KeyPath → Option Cell) (p : KeyPath)
    → row.refusals vars u p ≡ [] → other.refusals vars v p ≡ [] → (cond b row other).refusals vars
    (λ q. cond b (u q) (v q)) p ≡ []
chosen_refusals true row other vars u v p h k = h
chosen_refusals false row other vars u v p h k = k

module _ {A : Type 0} (vars : Variables) (a b : A) where
  field_ranked : (fs : List (Field A)) (rows : List Row) → AllRanked fs rows vars a b
      → (k : List ℕ) (p : KeyPath) → field_at fs b k p ≡ (row_at rows k).cells vars (λ q. field_at fs a k q) p
  field_ranked [] [] h k p = refl
  field_ranked [] (r ∷ rs) h k p = absurd h
  field_ranked (f ∷ fs) [] h k p = absurd h
  field_ranked (f ∷ fs) (r ∷ rs) h k p =
      subst (λ (key : List ℕ). field_at (f ∷ fs) b k p ≡ (cond (bytes_eq key k) r.1 (row_at rs k)).cells vars
      (λ q. field_at (f ∷ fs) a k q) p) h.0.key
      (chosen (bytes_eq f.key k) r.1 (row_at rs k) vars (f.cells a) (λ q. field_at fs a k q) _ _ p (h.0.ranked.0 p)
      (field_ranked fs rs h.1 k p))

  field_free : (fs : List (Field A)) (rows : List Row) → AllRanked fs rows vars a b
      → (k : List ℕ) (p : KeyPath) → (row_at rows k).refusals vars (λ q. field_at fs a k q) p ≡ []
  field_free [] [] h k p = refl
  field_free [] (row ∷ rs) h k p = absurd h
  field_free (f ∷ fs) [] h k p = absurd h
  field_free (f ∷ fs) (row ∷ rs) h k p =
      subst (λ (key : List ℕ). (cond (bytes_eq key k) row.1 (row_at rs k)).refusals vars (λ q. field_at (f ∷ fs) a k q)
      p ≡ []) h.0.key
      (chosen_refusals (bytes_eq f.key k) row.1 (row_at rs k) vars (f.cells a) (λ q. field_at fs a k q) p
      (h.0.ranked.1 p) (field_free fs rs h.1 k p))

  -- a table whose fields are ranked is ranked
  pub fields_ranked : (fs : List (Field A)) (rows : List Row) → AllRanked fs rows vars a b
      → IsRanked (fields_at fs) (by_field rows) vars a b
  fields_ranked fs rows h = (shown, free)
    where
      shown : (p : KeyPath) → fields_at fs b p ≡ (by_field rows).cells vars (fields_at fs a) p
      shown [] = refl
      shown (field k ∷ p) = field_ranked fs rows h k p
      shown (name k ∷ p) = refl

      free : (p : KeyPath) → (by_field rows).refusals vars (fields_at fs a) p ≡ []
      free [] = refl
      free (field k ∷ p) = field_free fs rows h k p
      free (name k ∷ p) = refl

-- the refusal of a row is one of the table
pub row_refused : {A : Type 0} (look : A → KeyPath → Option Cell) (rows : List Row) (vars : Variables) (a : A)
    (k : List ℕ) (e : Error)
    → IsRankCauseAt look rows vars a k e → IsRankCause look (by_field rows) vars a e
row_refused look rows vars a k e (inl m) = inl m
row_refused look rows vars a k e (inr h) = inr (field k ∷ h.0, h.1)
