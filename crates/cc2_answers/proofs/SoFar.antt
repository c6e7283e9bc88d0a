-- Items that are answered in turn.
use Rattle.std.proofs.Common.{◌≡◌, ℕ, List, [], ◌∷◌, ◌++◌, codes, Ok, Err, refl, sym, ap, subst, ◌∙◌, append_assoc, inr}
use Rattle.std.proofs.lemmas.List.{append-nil}
use Rattle.cc2_error.specs.Causes.{Refusal}
use Rattle.cc2_base.specs.Told.{Tree}
use Rattle.cc2_base.specs.ToldPrograms.{Answers}
use Rattle.cargo_config2.specs.declared.config.Config.{Config}
use Rattle.cc2_answers.specs.Items.{Item}
use Rattle.cc2_answers.specs.Outcomes.{AreAnswered, AreOutcome, IsOutcomeOf, spaced}

-- one text more
spaced_more : (texts : List (List ℕ)) (lines : List ℕ) → spaced (texts ++ lines ∷ []) ≡ spaced texts ++ (lines ++ codes "\n")
spaced_more [] lines = append-nil (lines ++ codes "\n")
spaced_more (text ∷ texts) lines =
    ap (λ rest. (text ++ codes "\n") ++ rest) (spaced_more texts lines)
    ∙ sym (append_assoc (text ++ codes "\n") (spaced texts) (lines ++ codes "\n"))

-- an item between those in front of it and those after
between : (front : List Item) (item : Item) (behind : List Item) → front ++ item ∷ behind ≡ (front ++ item ∷ []) ++ behind
between front item behind = sym (append_assoc front (item ∷ []) behind)

module _ (fs : Tree) (answers : Answers) (c : Config) where
  answered_more : (front : List Item) (texts : List (List ℕ)) (item : Item) (lines : List ℕ) → AreAnswered fs answers c front texts
      → IsOutcomeOf fs answers c item (Ok lines) → AreAnswered fs answers c (front ++ item ∷ []) (texts ++ lines ∷ [])
  answered_more [] [] item lines all one = (one, tt)
  answered_more [] (text ∷ texts) item lines all one = absurd all
  answered_more (i ∷ front) [] item lines all one = absurd all
  answered_more (i ∷ front) (text ∷ texts) item lines (first, all) one = (first, answered_more front texts item lines all one)

  -- all items but those that are left are answered, and this is their text
  pub record IsSoFar (all left : List Item) (text : List ℕ) : Type 0 where
    pub front : List Item
    pub texts : List (List ℕ)
    pub are : all ≡ front ++ left
    pub answered : AreAnswered fs answers c front texts
    pub is : text ≡ spaced texts

  pub at_first : (all : List Item) → IsSoFar all all []
  at_first all = record { front = []; texts = []; are = refl; answered = tt; is = refl }

  pub one_more : (all behind : List Item) (item : Item) (text more lines : List ℕ) → IsSoFar all (item ∷ behind) text
      → IsOutcomeOf fs answers c item (Ok lines) → more ≡ text ++ (lines ++ codes "\n") → IsSoFar all behind more
  one_more all behind item text more lines h one is = record {
    front = h.front ++ item ∷ [];
    texts = h.texts ++ lines ∷ [];
    are = h.are ∙ between h.front item behind;
    answered = answered_more h.front h.texts item lines h.answered one;
    is = is ∙ ap (λ xs. xs ++ (lines ++ codes "\n")) h.is ∙ sym (spaced_more h.texts lines);
  }

  pub at_last : (all : List Item) (text : List ℕ) → IsSoFar all [] text → AreOutcome fs answers c all (Ok text)
  at_last all text h =
      (h.texts, subst (λ (items : List Item). AreAnswered fs answers c items h.texts) (sym (h.are ∙ append-nil h.front)) h.answered, h.is)

  pub first_refused : (all behind : List Item) (item : Item) (text : List ℕ) (refusal : Refusal) → IsSoFar all (item ∷ behind) text
      → IsOutcomeOf fs answers c item (Err refusal) → AreOutcome fs answers c all (Err refusal)
  first_refused all behind item text refusal h refused = inr (record {
    front = h.front;
    item = item;
    behind = behind;
    texts = h.texts;
    are = h.are;
    answered = h.answered;
    refused = refused;
  })
