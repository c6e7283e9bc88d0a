-- What variables make of a configuration, from what they make of its tables.
use Rattle.std.proofs.Common.{◌≡◌, [], ◌∷◌, inl, inr, ◌∙◌, Result, Ok, Err, IfOk, IfErr, OnOk}
use Rattle.cc2_error.specs.declared.error.Error.{Error}
use Rattle.cc2_value.specs.Cells.{Key, field, name, KeyPath}
use Rattle.cc2_value.specs.Shown.{fields_at}
use Rattle.cc2_env.specs.Kept.{Variables}
use Rattle.cc2_env.specs.Ranked.{by_field, IsRanked, IsRankCause}
use Rattle.cc2_env.specs.Overrides.{is_overridden}
use Rattle.cc2_env.specs.Ranks.{config_ranks}
use Rattle.cc2_de.specs.declared.config.Config.{Config}
use Rattle.cc2_de.specs.Config.{config_fields, config_at, marks_at}
use Rattle.cc2_de.specs.ConfigRanks.{config_rank}

module _ (vars : Variables) (a : Config) where
  -- the tables by their ranks, and the marks by the variables, make the whole
  pub config_applied : (b c : Config) → IsRanked (fields_at config_fields) (by_field config_ranks) vars a b
      → ((k : Key) → (p : KeyPath) → config_at c (k ∷ p) ≡ config_at b (k ∷ p))
      → config_at c [] ≡ marks_at (is_overridden vars).0 (is_overridden vars).1
      → IsRanked config_at config_rank vars a c
  config_applied b c h same marks = (shown, free)
    where
      shown : (p : KeyPath) → config_at c p ≡ config_rank.cells vars (config_at a) p
      shown [] = marks
      shown (field k ∷ p) = same (field k) p ∙ h.0 (field k ∷ p)
      shown (name k ∷ p) = same (name k) p ∙ h.0 (name k ∷ p)

      free : (p : KeyPath) → config_rank.refusals vars (config_at a) p ≡ []
      free [] = h.1 []
      free (field k ∷ p) = h.1 (field k ∷ p)
      free (name k ∷ p) = h.1 (name k ∷ p)

  -- what refuses a table refuses the whole
  pub config_unapplied : (e : Error) → IsRankCause (fields_at config_fields) (by_field config_ranks) vars a e → IsRankCause config_at config_rank vars a e
  config_unapplied e (inl wants) = inl wants
  config_unapplied e (inr ([], has)) = inr ([], has)
  config_unapplied e (inr (field k ∷ p, has)) = inr (field k ∷ p, has)
  config_unapplied e (inr (name k ∷ p, has)) = inr (name k ∷ p, has)

-- what holds of a value where an outcome is Ok holds of what `on_ok` answers
pub ok_holds : {T U E : Type 0} (outcome : Result U E) (result : Result T E) (value : T) (P : T → Type 0)
    → OnOk outcome (result ≡ Ok value) → IfErr outcome (λ e. result ≡ Err e) → OnOk outcome (P value) → IfOk result P
ok_holds (Ok u) result value P is refused p = rw is p
ok_holds (Err e) result value P is refused p = rw refused tt

-- and what holds of its refusal
pub refusal_holds : {T U E : Type 0} (outcome : Result U E) (result : Result T E) (value : T) (P : E → Type 0)
    → OnOk outcome (result ≡ Ok value) → IfErr outcome (λ e. result ≡ Err e) → IfErr outcome P → IfErr result P
refusal_holds (Ok u) result value P is refused p = rw is tt
refusal_holds (Err e) result value P is refused p = rw refused p
