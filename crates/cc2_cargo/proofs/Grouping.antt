-- Layers merge to the same however they are grouped.
use Rattle.std.proofs.Common.{◌≡◌, arith, ℕ, Bool, true, false, cond, ◌&&◌, ◌||◌, List, [], ◌∷◌, ◌++◌, map, Option, Some, None, Result, Ok, Err, refl, sym, ap, ◌∙◌, append_assoc}
use Rattle.std.proofs.lemmas.Bool.Decides.{nat_tests}
use Rattle.std.proofs.lemmas.List.{map-append}
use Rattle.std.specs.Prelude.{if◌then◌else◌, nat_le}
use Rattle.cc2_error.specs.declared.error.Shape.{Shape}
use Rattle.cc2_cargo.specs.Loads.{IsOfGroups, Layer, layer_cells}
use Rattle.cc2_cargo.specs.Merging.{IsRawMapOf, first_origin, is_command_path, over_at, over_these, precedes, raw_joined, raw_over}
use Rattle.cc2_cargo.specs.Raw.{LayerOrigin, Path, RawCell, single, array, table, is_of_override}

abbrev Joined : Type 0
Joined = Result (Option RawCell) (Shape × Shape)

-- what a result has
abbrev cell_in : Joined → Option RawCell
cell_in (Ok o) = o
cell_in (Err shapes) = None

err_ok : (shapes : Shape × Shape) (o : Option RawCell) (r : Joined) → r ≡ Err shapes → r ≡ Ok o → ⊥
err_ok shapes o (Ok a) h g = cc h
err_ok shapes o (Err s) h g = cc g

none_over : (c : Bool) (r : Joined) → r ≡ over_these c None r
none_over c (Ok o) = refl
none_over c (Err shapes) = refl

over_none : (c : Bool) (o : Option RawCell) → over_at c o None ≡ Ok o
over_none c None = refl
over_none c (Some x) = refl

-- one origin precedes another, and that a third one; or it does neither
module _ (m n o : LayerOrigin) where
  abbrev p : Bool → Bool → ℕ → ℕ → Bool
  p b c x y = if b then c && nat_le x y else c || nat_le x y

  step : (b c d : Bool) → p b c m.turn n.turn ≡ true → p c d n.turn o.turn ≡ true → p b d m.turn o.turn ≡ true
  step true true true h k = grind (arith, nat_tests)
  step true true false h k = cc k
  step true false true h k = cc h
  step true false false h k = cc h
  step false true true h k = refl
  step false true false h k = cc k
  step false false true h k = refl
  step false false false h k = grind (arith, nat_tests)

  back : (b c d : Bool) → p b c m.turn n.turn ≡ false → p c d n.turn o.turn ≡ false → p b d m.turn o.turn ≡ false
  back true true true h k = grind (arith, nat_tests)
  back true true false h k = refl
  back true false true h k = cc k
  back true false false h k = refl
  back false true true h k = cc h
  back false true false h k = cc h
  back false false true h k = cc k
  back false false false h k = grind (arith, nat_tests)

  -- the first of three is the first of the first two, and of the last two
  first_of_three : first_origin (first_origin m n) o ≡ first_origin m (first_origin n o)
  first_of_three = go (precedes m n) (precedes n o) refl refl
    where
      b : LayerOrigin → Bool
      b x = is_of_override x.origin

      go : (x y : Bool) → precedes m n ≡ x → precedes n o ≡ y → first_origin (first_origin m n) o ≡ first_origin m (first_origin n o)
      go true true h k =
          ap (λ z. first_origin (cond z m n) o) h ∙ ap (λ z. cond z m o) (step (b m) (b n) (b o) h k)
          ∙ sym (ap (λ z. cond z m n) h) ∙ ap (λ z. first_origin m (cond z n o)) (sym k)
      go true false h k = ap (λ z. first_origin (cond z m n) o) h ∙ ap (λ z. first_origin m (cond z n o)) (sym k)
      go false true h k =
          ap (λ z. first_origin (cond z m n) o) h ∙ ap (λ z. cond z n o) k ∙ sym (ap (λ z. cond z m n) h)
          ∙ ap (λ z. first_origin m (cond z n o)) (sym k)
      go false false h k =
          ap (λ z. first_origin (cond z m n) o) h ∙ ap (λ z. cond z n o) k ∙ sym (ap (λ z. cond z m o) (back (b m) (b n) (b o) h k))
          ∙ ap (λ z. first_origin m (cond z n o)) (sym k)

-- a cell over two others
three : (c : Bool) (x y z : RawCell) (a : Option RawCell) → raw_over c x y ≡ Ok a → over_at c a (Some z) ≡ over_these c (Some x) (raw_over c y z)
three c (single s) (single t) (single u) a h = ap (λ r. over_at c (cell_in r) (Some (single u))) (sym h)
three c (single s) (single t) (array q us) a h = ap (λ r. over_at c (cell_in r) (Some (array q us))) (sym h)
three c (single s) (single t) table a h = ap (λ r. over_at c (cell_in r) (Some table)) (sym h)
three c (array o ss) (array p ts) (single u) a h = ap (λ r. over_at c (cell_in r) (Some (single u))) (sym h)
three true (array o ss) (array p ts) (array q us) a h =
    ap (λ r. over_at true (cell_in r) (Some (array q us))) (sym h) ∙ (λ i. Ok (Some (array (first_of_three o p q i) ss)))
three false (array o ss) (array p ts) (array q us) a h =
    ap (λ r. over_at false (cell_in r) (Some (array q us))) (sym h)
    ∙ (λ i. Ok (Some (array (first_of_three o p q i) (sym (append_assoc us ts ss) i))))
three c (array o ss) (array p ts) table a h = ap (λ r. over_at c (cell_in r) (Some table)) (sym h)
three c table table z a h = ap (λ r. over_at c (cell_in r) (Some z)) (sym h) ∙ same z
  where
    same : (w : RawCell) → over_at c (Some table) (Some w) ≡ over_these c (Some table) (raw_over c table w)
    same (single s) = refl
    same (array q ss) = refl
    same table = refl
three c (single s) (array p ts) z a h = absurd (err_ok _ a _ refl h)
three c (single s) table z a h = absurd (err_ok _ a _ refl h)
three c (array o ss) (single t) z a h = absurd (err_ok _ a _ refl h)
three c (array o ss) table z a h = absurd (err_ok _ a _ refl h)
three c table (single t) z a h = absurd (err_ok _ a _ refl h)
three c table (array p ts) z a h = absurd (err_ok _ a _ refl h)

over_over : (c : Bool) (o b w a : Option RawCell) → over_at c o b ≡ Ok a → over_at c a w ≡ over_these c o (over_at c b w)
over_over c None b w a h = ap (λ r. over_at c (cell_in r) w) (sym h) ∙ none_over c (over_at c b w)
over_over c (Some x) None w a h = ap (λ r. over_at c (cell_in r) w) (sym h)
over_over c (Some x) (Some y) None a h = over_none c a ∙ sym h
over_over c (Some x) (Some y) (Some z) a h = three c x y z a h

-- what a group comes to, over what the others come to
grouped : (c : Bool) (os ps : List (Option RawCell)) (a b : Option RawCell) → raw_joined c os ≡ Ok a → raw_joined c ps ≡ Ok b
    → over_at c a b ≡ raw_joined c (os ++ ps)
grouped c [] ps a b h g = ap (λ r. over_at c (cell_in r) b) (sym h) ∙ sym g
grouped c (o ∷ os) ps a b h g = go (raw_joined c os) refl h (λ d is. grouped c os ps d b is g)
  where
    go : (r : Joined) → raw_joined c os ≡ r → over_these c o r ≡ Ok a
        → ((d : Option RawCell) → raw_joined c os ≡ Ok d → over_at c d b ≡ raw_joined c (os ++ ps)) → over_at c a b ≡ over_these c o (raw_joined c (os ++ ps))
    go (Ok d) is whole rest = over_over c o d b a whole ∙ ap (over_these c o) (rest d is)
    go (Err shapes) is whole rest = absurd (err_ok shapes a _ refl whole)

pub of_groups : (layers : List Layer) (look : Path → Option RawCell) → IsRawMapOf layer_cells layers look → IsOfGroups layers look
of_groups layers look is stronger weaker strong weak parts s w p =
    let c = is_command_path p in
    let f : Layer → Option RawCell = λ x. layer_cells x p in
    let all : raw_joined c (map f stronger ++ map f weaker) ≡ Ok (look p) =
    ap (raw_joined c) (sym (map-append f stronger weaker)) ∙ ap (λ xs. raw_joined c (map f xs)) (sym parts) ∙ is p in
    grouped c (map f stronger) (map f weaker) (strong p) (weak p) (s p) (w p) ∙ all
