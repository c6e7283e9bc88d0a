-- Which problems are reported, of those that are found one list after another.
use Rattle.std.proofs.Common.{◌≡◌, ◌∙◌, ℕ, Bool, true, false, List, [], ◌∷◌, ◌++◌, ap, append_assoc, sym}
use Rattle.std.specs.Prelude.{◌||◌, if◌then◌else◌}
use Rattle.std.proofs.lemmas.List.{append-nil}
use Rattle.cc2_reports.specs.Problems.{Problem}
use Rattle.cc2_reports.specs.Selected.{is_allowed, is_reported, new_among, reported_among}

module _ (allowed : List (List ℕ)) where
  -- by whether the first is passed over
  more_by : (earlier xs ys : List Problem) (p : Problem) (passed : Bool)
      → (new_among allowed earlier (xs ++ ys) ≡ new_among allowed earlier xs ++ new_among allowed (earlier ++ new_among allowed earlier xs) ys)
      → (new_among allowed (earlier ++ p ∷ []) (xs ++ ys)
      ≡ new_among allowed (earlier ++ p ∷ []) xs
      ++ new_among allowed ((earlier ++ p ∷ []) ++ new_among allowed (earlier ++ p ∷ []) xs) ys)
      → (if passed then new_among allowed earlier (xs ++ ys) else p ∷ new_among allowed (earlier ++ p ∷ []) (xs ++ ys))
      ≡ (if passed then new_among allowed earlier xs else p ∷ new_among allowed (earlier ++ p ∷ []) xs)
      ++ new_among allowed (earlier ++ (if passed then new_among allowed earlier xs else p ∷ new_among allowed (earlier ++ p ∷ []) xs)) ys
  more_by earlier xs ys p true without with_it = without
  more_by earlier xs ys p false without with_it =
      ap (λ ps. p ∷ ps) with_it
      ∙ ap (λ es. p ∷ (new_among allowed (earlier ++ p ∷ []) xs ++ new_among allowed es ys))
      (append_assoc earlier (p ∷ []) (new_among allowed (earlier ++ p ∷ []) xs))

  pub new_more : (earlier xs ys : List Problem)
      → new_among allowed earlier (xs ++ ys) ≡ new_among allowed earlier xs ++ new_among allowed (earlier ++ new_among allowed earlier xs) ys
  new_more earlier [] ys = ap (λ es. new_among allowed es ys) (sym (append-nil earlier))
  new_more earlier (p ∷ xs) ys =
      more_by earlier xs ys p (is_allowed allowed p || is_reported earlier p) (new_more earlier xs ys) (new_more (earlier ++ p ∷ []) xs ys)

  -- those of a list more are appended
  pub reported_more : (all xs ys : List Problem) → all ≡ reported_among allowed xs
      → all ++ new_among allowed all ys ≡ reported_among allowed (xs ++ ys)
  reported_more all xs ys is =
      ap (λ es. es ++ new_among allowed es ys) is ∙ sym (new_more [] xs ys)
