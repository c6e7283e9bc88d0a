-- The refusals of a question.
use Rattle.std.proofs.Common.{◌≡◌, ℕ, ◌<◌, ◌≤◌, List, [], ◌∷◌, length, arith, None}
use Rattle.std.specs.Prelude.{Err}
use Rattle.std.proofs.lemmas.Bool.Decides.{nat_tests}
use Rattle.cc2_error.specs.Causes.{plain, cfg_value_too_many, cfg_value_unreadable}
use Rattle.cc2_rustc.specs.Readings.{Reading, cfg_answer}

module _ {A : Type 0} (name : List ℕ) (most : ℕ) (reading : Reading A) where
  -- more values than may be
  pub answer-many : (values : List (List ℕ)) → most < length values
      → cfg_answer name most reading values ≡ Err (plain (cfg_value_too_many name))
  answer-many [] h = absurd (omega arith)
  answer-many (value ∷ values) h = grind (arith, nat_tests)

  -- values that can't be read
  pub answer-unread : (values : List (List ℕ)) → 0 < length values → length values ≤ most
      → reading.read values ≡ None → cfg_answer name most reading values ≡ Err (plain (cfg_value_unreadable name))
  answer-unread [] h l e = absurd (omega arith)
  answer-unread (value ∷ values) h l e = grind (arith, nat_tests)
