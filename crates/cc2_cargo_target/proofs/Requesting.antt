-- What texts ask for, one after another.
use Rattle.std.proofs.Common.{◌≡◌, ◌+◌, ◌<◌, ℕ, List, [], ◌∷◌, ◌++◌, String, Global, string_bytes, drop, get_or, length, map, Result, Ok, Err, refl, sym, ap, ◌∙◌, append_assoc}
use Rattle.cc2_error.specs.Causes.{Refusal}
use Rattle.cc2_cargo_settings.specs.Values.{on_ok}
use Rattle.cc2_cargo_target.proofs.Matching.{left_over}
use Rattle.cc2_cargo_target.specs.Targets.{Requested, all_requested, request_of, requested_then}

then_more : (done : List Requested) (r : Requested) (rest : Result (List Requested) Refusal)
    → requested_then done (requested_then (r ∷ []) rest) ≡ requested_then (done ++ r ∷ []) rest
then_more done r (Ok rs) = ap Ok (sym (append_assoc done (r ∷ []) rs))
then_more done r (Err refusal) = refl

-- one text more
pub one_requested : (texts : List (String Global)) (i : ℕ) (d : String Global) (all : Result (List Requested) Refusal) (done : List Requested)
    (text : List ℕ) (r : Requested) → i < length texts → text ≡ string_bytes (get_or texts i d) → request_of text ≡ Ok r
    → all ≡ requested_then done (all_requested (map string_bytes (drop i texts)))
    → all ≡ requested_then (done ++ r ∷ []) (all_requested (map string_bytes (drop (i + 1) texts)))
one_requested texts i d all done text r inside same is so_far =
    let left = all_requested (map string_bytes (drop (i + 1) texts)) in
    so_far ∙ ap (λ ts. requested_then done (all_requested (map string_bytes ts))) (left_over texts i d inside)
    ∙ ap (λ (o : Result Requested Refusal). requested_then done (on_ok (λ x. requested_then (x ∷ []) left) o)) (ap request_of (sym same) ∙ is)
    ∙ then_more done r left
