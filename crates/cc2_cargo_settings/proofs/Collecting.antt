-- Changes so far, with those of the settings left.
use Rattle.std.proofs.Common.{◌≡◌, ℕ, suc, ◌<◌, ◌+◌, List, [], ◌∷◌, ◌++◌, Option, Some, None, Result, Ok, Err, drop, drop-cons, get_or, length, inl, inr, refl, sym, ap, ◌∙◌, append_assoc, arith, subst}
use Rattle.std.proofs.lemmas.List.{append-nil}
use Rattle.cc2_error.specs.Causes.{Refusal}
use Rattle.cc2_error.specs.Outcomes.{Gives, IsRefusal}
use Rattle.cc2_error.specs.declared.error.Error.{Error}
use Rattle.cc2_base.specs.declared.machine.Machine.{Machine}
use Rattle.cc2_cargo.specs.Raw.{Path, RawCell}
use Rattle.cc2_cargo_settings.specs.Changes.{Cells, Change, change_asked, changes_at, changes_then, with_change}
use Rattle.cc2_cargo_settings.specs.Settings.{Row}
use Rattle.cc2_cargo_settings.specs.Values.{on_ok}

-- the items from an index are that at it and those after it
from_index : {A : Type 0} (xs : List A) (i : ℕ) (d : A) → i < length xs → drop i xs ≡ get_or xs i d ∷ drop (i + 1) xs
from_index xs i d inside =
    let next : suc i ≡ i + 1 = omega (arith) in
    drop-cons xs i d inside ∙ ap (λ m. get_or xs i d ∷ drop m xs) next

-- a change more
one_after : (done : List Change) (path : Path) (cells : Cells) (rest : Result (List Change) Refusal)
    → changes_then (done ++ record { path = path; cells = cells } ∷ []) rest ≡ changes_then done (on_ok (λ cs. Ok (with_change path (Some cells) cs)) rest)
one_after done path cells (Ok cs) = ap Ok (append_assoc done (record { path = path; cells = cells } ∷ []) cs)
one_after done path cells (Err refusal) = refl

-- no change
none_after : (done : List Change) (path : Path) (rest : Result (List Change) Refusal)
    → changes_then done rest ≡ changes_then done (on_ok (λ cs. Ok (with_change path None cs)) rest)
none_after done path (Ok cs) = refl
none_after done path (Err refusal) = refl

module _ (look : Path → Option RawCell) (machine : Machine) (asked : Path) where
  -- those of rows, and then those of other rows
  pub joined : (done : List Change) (rs qs : List Row)
      → changes_then done (changes_at look machine asked (rs ++ qs))
      ≡ on_ok (λ now. changes_then now (changes_at look machine asked qs)) (changes_then done (changes_at look machine asked rs))
  joined done [] qs = ap (λ d. changes_then d (changes_at look machine asked qs)) (sym (append-nil done))
  joined done (r ∷ rs) qs = go (change_asked look machine asked r) (joined done rs qs) (λ c. joined (done ++ c ∷ []) rs qs)
    where
      step : Result (Option Cells) Refusal → Result (List Change) Refusal → Result (List Change) Refusal
      step read rest = on_ok (λ cells. on_ok (λ cs. Ok (with_change r.path cells cs)) rest) read

      later : Result (List Change) Refusal → Result (List Change) Refusal
      later first = on_ok (λ now. changes_then now (changes_at look machine asked qs)) first

      IsJoined : List Change → Type 0
      IsJoined ds = changes_then ds (changes_at look machine asked (rs ++ qs)) ≡ later (changes_then ds (changes_at look machine asked rs))

      go : (read : Result (Option Cells) Refusal) → IsJoined done → ((c : Change) → IsJoined (done ++ c ∷ []))
          → changes_then done (step read (changes_at look machine asked (rs ++ qs))) ≡ later (changes_then done (step read (changes_at look machine asked rs)))
      go (Err refusal) same more = refl
      go (Ok None) same more =
          sym (none_after done r.path (changes_at look machine asked (rs ++ qs))) ∙ same
          ∙ ap later (none_after done r.path (changes_at look machine asked rs))
      go (Ok (Some cells)) same more =
          sym (one_after done r.path cells (changes_at look machine asked (rs ++ qs))) ∙ more (record { path = r.path; cells = cells })
          ∙ ap later (one_after done r.path cells (changes_at look machine asked rs))

  -- the first rows have made their changes: what all come to is what the others come to after these
  pub then_others : (done now : List Change) (rs qs : List Row) (all : Result (List Change) Refusal)
      → changes_then done (changes_at look machine asked rs) ≡ Ok now → changes_then done (changes_at look machine asked (rs ++ qs)) ≡ all
      → changes_then now (changes_at look machine asked qs) ≡ all
  then_others done now rs qs all first whole =
      sym (joined done rs qs ∙ ap (on_ok (λ ds. changes_then ds (changes_at look machine asked qs))) first) ∙ whole

  -- one of the first rows can't be read: that is what all come to
  pub none_of_others : (done : List Change) (rs qs : List Row) (all : Result (List Change) Refusal) (e : Error)
      → IsRefusal (changes_then done (changes_at look machine asked rs)) e → changes_then done (changes_at look machine asked (rs ++ qs)) ≡ all
      → IsRefusal all e
  none_of_others done rs qs all e (inl memory) whole = inl memory
  none_of_others done rs qs all e (inr refused) whole =
      inr (sym whole ∙ joined done rs qs ∙ ap (on_ok (λ ds. changes_then ds (changes_at look machine asked qs))) refused)

  -- one more of a list, whose others' rows follow its own: the changes are those so far with its own
  pub next_in : {A : Type 0} (rest : List A → List Row) (rows : A → List Row) (each : (x : A) (xs : List A) → rest (x ∷ xs) ≡ rows x ++ rest xs)
      (xs : List A) (i : ℕ) (d : A) (done now : List Change) (all : Result (List Change) Refusal)
      → i < length xs → changes_then done (changes_at look machine asked (rows (get_or xs i d))) ≡ Ok now
      → changes_then done (changes_at look machine asked (rest (drop i xs))) ≡ all
      → changes_then now (changes_at look machine asked (rest (drop (i + 1) xs))) ≡ all
  next_in rest rows each xs i d done now all inside first whole =
      then_others done now (rows (get_or xs i d)) (rest (drop (i + 1) xs)) all first
      (ap (λ l. changes_then done (changes_at look machine asked l))
      (sym (each (get_or xs i d) (drop (i + 1) xs)) ∙ ap rest (sym (from_index xs i d inside))) ∙ whole)

  -- it can't be read: that is what all come to
  pub refused_in : {A : Type 0} (rest : List A → List Row) (rows : A → List Row) (each : (x : A) (xs : List A) → rest (x ∷ xs) ≡ rows x ++ rest xs)
      (xs : List A) (i : ℕ) (d : A) (done : List Change) (all : Result (List Change) Refusal) (e : Error)
      → i < length xs → IsRefusal (changes_then done (changes_at look machine asked (rows (get_or xs i d)))) e
      → changes_then done (changes_at look machine asked (rest (drop i xs))) ≡ all → IsRefusal all e
  refused_in rest rows each xs i d done all e inside first whole =
      none_of_others done (rows (get_or xs i d)) (rest (drop (i + 1) xs)) all e first
      (ap (λ l. changes_then done (changes_at look machine asked l))
      (sym (each (get_or xs i d) (drop (i + 1) xs)) ∙ ap rest (sym (from_index xs i d inside))) ∙ whole)

  -- without a row nothing changes
  pub nothing_more : (done : List Change) → changes_then done (changes_at look machine asked []) ≡ Ok done
  nothing_more done = ap Ok (append-nil done)

  -- those of rows, and then of other rows, by two calls
  pub in_two : {T : Type 0} (view : T → List Change) (done now : List Change) (rs qs : List Row) (r : Result T Error)
      → changes_then done (changes_at look machine asked rs) ≡ Ok now → Gives view r (changes_then now (changes_at look machine asked qs))
      → Gives view r (changes_then done (changes_at look machine asked (rs ++ qs)))
  in_two view done now rs qs r first given =
      subst (λ x. Gives view r x) (sym (joined done rs qs ∙ ap (on_ok (λ ds. changes_then ds (changes_at look machine asked qs))) first)) given

-- without changes so far
pub none_first : (x : Result (List Change) Refusal) → changes_then [] x ≡ x
none_first (Ok cs) = refl
none_first (Err refusal) = refl
