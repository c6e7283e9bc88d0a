-- From what `cc2_cargo` loads to the map of a directory.
use Rattle.std.proofs.Common.{◌≡◌, ◌⊎◌, ℕ, List, Option, Result, Ok, inl, inr, sym, ◌∙◌, subst}
use Rattle.cc2_error.specs.Causes.{Refusal, memory, plain}
use Rattle.cc2_base.specs.Told.{Tree}
use Rattle.cc2_base.specs.Walked.{walked}
use Rattle.cc2_cargo.specs.Loads.{HasNoCause, IsOutOfMemory, IsRawLoad, IsRawLoadCause}
use Rattle.cc2_cargo.specs.Raw.{Path, RawCell}
use Rattle.cc2_cargo.specs.RealHomes.{home_beside}
use Rattle.cc2_cargo.specs.RealPaths.{RealPathMap}
use Rattle.cc2_cargo.specs.declared.load.LoadFault.{LoadFault}
use Rattle.cargo_rules.specs.Loads.{IsCargoCause, IsCargoMap, IsLoadError}
use Rattle.cargo_rules.specs.Messages.{refusal_for}
use Rattle.cargo_rules.proofs.Undering.{lacks}

module _ (fs : Tree) (reals : RealPathMap) (dir : List ℕ) (paths : List (List ℕ)) (found : Result (Option (List ℕ)) Refusal) (home : Option (List ℕ))
    (at : found ≡ Ok home) (are : paths ≡ walked fs dir (home_beside reals dir home)) where
  pub map_of : (look : Path → Option RawCell) → IsRawLoad fs paths look → IsCargoMap fs reals dir found look
  map_of look is = subst (λ h. IsCargoMap fs reals dir h look) (sym at) (subst (λ ps. IsRawLoad fs ps look) are is)

  pub none_of : HasNoCause fs paths → (refusal : Refusal) → ¬ (IsCargoCause fs reals dir found refusal)
  none_of none refusal cause = go (subst (λ h. IsCargoCause fs reals dir h refusal) at cause)
    where
      go : IsLoadError fs (walked fs dir (home_beside reals dir home)) refusal → ⊥
      go e = e.is_known (none e.fault (subst (λ ps. IsRawLoadCause fs ps e.fault) (sym are) e.cause))

  pub error_of : (why : LoadFault) (refusal : Refusal) → IsRawLoadCause fs paths why
      → (refusal ≡ plain memory) ⊎ (refusal ≡ refusal_for why) → (refusal ≡ plain memory) ⊎ IsCargoCause fs reals dir found refusal
  error_of why refusal cause (inl memory_out) = inl memory_out
  error_of why refusal cause (inr printed) = go (lacks why)
    where
      go : (refusal_for why ≡ plain memory) ⊎ (¬ (IsOutOfMemory why)) → (refusal ≡ plain memory) ⊎ IsCargoCause fs reals dir found refusal
      go (inl memory_out) = inl (printed ∙ memory_out)
      go (inr known) =
          inr (subst (λ h. IsCargoCause fs reals dir h refusal) (sym at)
          (record { fault = why; cause = subst (λ ps. IsRawLoadCause fs ps why) are cause; is_known = known; printed = printed }))
