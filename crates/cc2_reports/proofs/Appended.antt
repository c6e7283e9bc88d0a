-- What is reported of two lists, one behind the other.
use Rattle.std.proofs.Common.{◌≡◌, ℕ, Bool, true, false, List, [], ◌∷◌, ◌++◌, append_assoc, sym, ap, ◌∙◌}
use Rattle.std.proofs.lemmas.List.{append-nil}
use Rattle.std.specs.Prelude.{◌||◌, if◌then◌else◌}
use Rattle.cc2_reports.specs.Problems.{Problem}
use Rattle.cc2_reports.specs.Selected.{is_allowed, is_reported, new_among, reported_among}

module _ (allowed : List (List ℕ)) (qs : List Problem) where
  one_more : (e ps : List Problem) (p : Problem) (b : Bool)
      → new_among allowed e (ps ++ qs) ≡ new_among allowed e ps ++ new_among allowed (e ++ new_among allowed e ps) qs
      → new_among allowed (e ++ p ∷ []) (ps ++ qs)
      ≡ new_among allowed (e ++ p ∷ []) ps ++ new_among allowed ((e ++ p ∷ []) ++ new_among allowed (e ++ p ∷ []) ps) qs
      → (if b then new_among allowed e (ps ++ qs) else p ∷ new_among allowed (e ++ p ∷ []) (ps ++ qs))
      ≡ (if b then new_among allowed e ps else p ∷ new_among allowed (e ++ p ∷ []) ps)
      ++ new_among allowed (e ++ (if b then new_among allowed e ps else p ∷ new_among allowed (e ++ p ∷ []) ps)) qs
  one_more e ps p true without with = without
  one_more e ps p false without with =
      let own = new_among allowed (e ++ p ∷ []) ps in
      ap (λ xs. p ∷ xs) (with ∙ ap (λ x. own ++ new_among allowed x qs) (append_assoc e (p ∷ []) own))

  -- those of two lists are those of the first, and behind it those of the second that are new
  in_two : (e ps : List Problem) → new_among allowed e (ps ++ qs) ≡ new_among allowed e ps ++ new_among allowed (e ++ new_among allowed e ps) qs
  in_two e [] = ap (λ x. new_among allowed x qs) (sym (append-nil e))
  in_two e (p ∷ ps) = one_more e ps p (is_allowed allowed p || is_reported e p) (in_two e ps) (in_two (e ++ p ∷ []) ps)

  pub appended : (found old new : List Problem) → old ≡ reported_among allowed found → new ≡ old ++ new_among allowed old qs
      → new ≡ reported_among allowed (found ++ qs)
  appended found old new was is = is ∙ ap (λ x. x ++ new_among allowed x qs) was ∙ sym (in_two [] found)
