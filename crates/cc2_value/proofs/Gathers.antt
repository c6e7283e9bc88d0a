-- Values that are gathered one after another.
use Rattle.std.proofs.Common.{◌≡◌, Bool, true, false, not, ℕ, ◌+◌, List, [], ◌∷◌, ◌++◌, take, length, Option, Some, None, option_map, Ok, refl, sym, ap, ◌∙◌, append_assoc, inl, inr}
use Rattle.std.proofs.lemmas.List.{take_at, length_push, reverse-reverse}
use Rattle.std.proofs.lemmas.List.Elements.{filter_map-append}
use Rattle.cc2_error.specs.Causes.{refusal_of}
use Rattle.cc2_error.specs.declared.error.Error.{Error}
use Rattle.cc2_value.specs.Cells.{KeyPath, Cell, Setting, Single, Text, Items, Joined, Entry, Undecoded, Marks, joined, present, cells_at, IsPointwise}
use Rattle.cc2_value.specs.JoinedLaws.{joined-append, joined_alone}
use Rattle.cc2_value.specs.Shown.{option_at, single_at}
use Rattle.cc2_value.specs.Places.{IsUnjoined, IsFaultAt}
use Rattle.cc2_value.specs.declared.merge_fault.MergeAllFault.{MergeAllFault}
use Rattle.cc2_value.specs.declared.merge_fault.MergeAllFault.TheVariants as fault
use Rattle.cc2_value.proofs.TwoCells.{both_none}
use Rattle.cc2_value.specs.Gathered.{reversed, reversed_at, as_kept, IsGathered, IsUngathered, IsGatheredNext, IsMixedNext, IsReversedIf, AreKept, IsReversed, HasNoList}

-- reversed twice it is as it was
reversed_twice : (c : Cell) → reversed (reversed c) ≡ c
reversed_twice (Single s) = refl
reversed_twice (Text ws) = refl
reversed_twice (Items ws) = ap Items (reverse-reverse ws)
reversed_twice (Joined ss) = ap Joined (reverse-reverse ss)
reversed_twice Entry = refl
reversed_twice Undecoded = refl
reversed_twice (Marks b d) = refl

pub twice : (o : Option Cell) → option_map reversed (option_map reversed o) ≡ o
twice None = refl
twice (Some c) = ap Some (reversed_twice c)

-- single values
pub single_gathered : {A : Type 0} (setting : A → Setting) (x y : A) → IsGathered (single_at setting) x y x
single_gathered setting x y [] = refl
single_gathered setting x y (k ∷ p) = refl

pub single_reversed : {A : Type 0} (setting : A → Setting) (x : A) → IsReversed (single_at setting) x x
single_reversed setting x [] = refl
single_reversed setting x (k ∷ p) = refl

pub single_unlisted : {A : Type 0} (setting : A → Setting) → HasNoList (single_at setting)
single_unlisted setting x [] = refl
single_unlisted setting x (k ∷ p) = refl

-- an absent weaker value, and the first that is there
pub none_gathered : {T : Type 0} (look : T → KeyPath → Option Cell) (o : Option T) → IsGathered (option_at look) o None o
none_gathered look o p = both_none (reversed_at (option_at look) o p)

pub first_gathered : {T : Type 0} (look : T → KeyPath → Option Cell) (low new : Option T) → IsReversed (option_at look) low new → IsGathered (option_at look) None low new
first_gathered look low new h p =
    joined_alone (option_at look low p) ∙ ap Ok (sym (twice (option_at look low p))) ∙ ap (λ o. Ok (option_map reversed o)) (sym (h p))

module _ {A : Type 0} (look : A → KeyPath → Option Cell) where
  abbrev kept_at : Bool → A → KeyPath → Option Cell
  kept_at is c p = as_kept is (look c p)

  both : (is : Bool) (ys : List A) (m x : A) (p : KeyPath) → AreKept look is ys m → joined (present (kept_at is m p ∷ look x p ∷ [])) ≡ joined (cells_at look p (ys ++ x ∷ []))
  both is ys m x p h =
      sym (ap joined (filter_map-append (λ y. look y p) ys (x ∷ []))
      ∙ joined-append (cells_at look p ys) (cells_at look p (x ∷ [])) (kept_at is m p) (look x p) (h p) (joined_alone (look x p)))

  -- one more is kept
  pub one_kept : (was is : Bool) (ys : List A) (m x n : A) → AreKept look was ys m → IsGatheredNext look was m x is n → AreKept look is (ys ++ x ∷ []) n
  one_kept was is ys m x n h k p = sym (both was ys m x p h) ∙ k p

  -- all are, and lists are as they were
  pub all_joined : (is : Bool) (ys : List A) (m n : A) → AreKept look is ys m → IsReversedIf look is m n → IsPointwise look ys n
  all_joined is ys m n h k p = h p ∙ ap Ok (sym (k p))

  -- those passed are kept, and the next doesn't merge with them
  pub mixed_at_next : (was : Bool) (ys : List A) (x : A) (more all : List A) (m : A) (place : ℕ) (f : MergeAllFault) → place ≡ length ys → ys ++ x ∷ more ≡ all
      → AreKept look was ys m → IsMixedNext look was m x place f → IsUnjoined look all f
  mixed_at_next was ys x more all m place fault.Memory at whole h k = tt
  mixed_at_next was ys x more all m place (fault.Mixed p e) at whole h (is, (path, shapes, (meets, says))) =
      let here : p ≡ length ys = is ∙ at in
      let before : take p all ≡ ys = ap (take p) (sym whole) ∙ take_at ys (x ∷ more) p (sym here) in
      let with_it : take (p + 1) all ≡ ys ++ x ∷ [] =
      ap (take (p + 1)) (sym whole ∙ sym (append_assoc ys (x ∷ []) more)) ∙ take_at (ys ++ x ∷ []) more (p + 1) (length_push ys x ∙ ap (λ n. n + 1) (sym here)) in
      record {
        before = λ q. (kept_at was m q, ap (λ zs. joined (cells_at look q zs)) before ∙ h q);
        path = path;
        shapes = shapes;
        meet = (ap (λ zs. joined (cells_at look path zs)) with_it ∙ sym (both was ys m x path h) ∙ meets, says);
      }

-- what is kept, seen with its lists reversed
kept_once : (was : Bool) (o r : Option Cell) → r ≡ as_kept (not was) o → option_map reversed r ≡ as_kept was o
kept_once true o r h = ap (option_map reversed) h
kept_once false o r h = ap (option_map reversed) h ∙ twice o

module _ {T : Type 0} (look : T → KeyPath → Option Cell) where
  -- an absent value, and the first that is there
  pub none_next : (was : Bool) (o : Option T) → IsGatheredNext (option_at look) was o None was o
  none_next was o p = both_none (as_kept was (option_at look o p))

  pub first_next : (was : Bool) (low : Option T) → IsGatheredNext (option_at look) was None low false low
  first_next true low p = joined_alone (option_at look low p)
  first_next false low p = joined_alone (option_at look low p)

  -- what was reversed for it, or before
  pub gathered_next : (was : Bool) (old mid low new : Option T) → ((p : KeyPath) → option_at look mid p ≡ as_kept (not was) (option_at look old p))
      → IsGathered (option_at look) mid low new → IsGatheredNext (option_at look) was old low true new
  gathered_next was old mid low new h k p =
      ap (λ o. joined (present (o ∷ option_at look low p ∷ []))) (sym (kept_once was (option_at look old p) (option_at look mid p) (h p))) ∙ k p

  pub mixed_next : (was : Bool) (old mid low : Option T) (place : ℕ) (e : Error) (f : MergeAllFault) → IsFaultAt place e f
      → ((p : KeyPath) → option_at look mid p ≡ as_kept (not was) (option_at look old p))
      → IsUngathered (option_at look) mid low e → IsMixedNext (option_at look) was old low place f
  mixed_next was old mid low place e fault.Memory at h k = tt
  mixed_next was old mid low place e (fault.Mixed p f) at h (inl wants) = absurd (at.2 (ap (λ r. r.cause) wants))
  mixed_next was old mid low place e (fault.Mixed p f) at h (inr k) =
      (at.0, (k.0, k.1, (ap (λ o. joined (present (o ∷ option_at look low k.0 ∷ []))) (sym (kept_once was (option_at look old k.0) (option_at look mid k.0) (h k.0))) ∙ k.2, ap refusal_of at.1 ∙ k.3)))
