-- From what `cc2_cargo` loads under overrides to the map of a directory.
use Rattle.std.proofs.Common.{◌≡◌, ◌⊎◌, ⊎_elim, ℕ, List, Option, Result, Ok, inl, inr, refl, sym, ◌∙◌, subst}
use Rattle.cc2_error.specs.Causes.{Refusal, memory, plain}
use Rattle.cc2_base.specs.Told.{Tree}
use Rattle.cc2_base.specs.Walked.{walked}
use Rattle.cc2_cargo.specs.Loads.{IsOutOfMemory}
use Rattle.cc2_cargo.specs.Overrides.{HasNoCauseWith, IsLoadWith, IsLoadWithCause}
use Rattle.cc2_cargo.specs.Raw.{Path, RawCell}
use Rattle.cc2_cargo.specs.RealHomes.{home_beside}
use Rattle.cc2_cargo.specs.RealPaths.{RealPathMap}
use Rattle.cc2_cargo.specs.declared.expand.FileFault.TheVariants as file_fault
use Rattle.cc2_cargo.specs.declared.layer.LayerFault.TheVariants as layer_fault
use Rattle.cc2_cargo.specs.declared.load.LoadFault.{LoadFault}
use Rattle.cc2_cargo.specs.declared.load.LoadFault.TheVariants as fault
use Rattle.cargo_rules.specs.Messages.{refusal_for}
use Rattle.cargo_rules.specs.Loads.{IsCauseUnder, IsErrorUnder, IsMapUnder}

-- memory ran out, or it didn't
pub lacks : (why : LoadFault) → (refusal_for why ≡ plain memory) ⊎ (¬ (IsOutOfMemory why))
lacks (fault.File (file_fault.Unreadable p)) = inr (λ h. ⊎_elim (λ e. cc e) (λ e. cc e) h)
lacks (fault.File (file_fault.NotText p)) = inr (λ h. ⊎_elim (λ e. cc e) (λ e. cc e) h)
lacks (fault.File (file_fault.NoToml p m)) = inr (λ h. ⊎_elim (λ e. cc e) (λ e. cc e) h)
lacks (fault.File (file_fault.Include p c)) = inr (λ h. ⊎_elim (λ e. cc e) (λ e. cc e) h)
lacks (fault.File (file_fault.Twice p)) = inr (λ h. ⊎_elim (λ e. cc e) (λ e. cc e) h)
lacks (fault.File file_fault.Memory) = inl refl
lacks (fault.Override t o) = inr (λ h. ⊎_elim (λ e. cc e) (λ e. cc e) h)
lacks (fault.OverrideInclude t i) = inr (λ h. ⊎_elim (λ e. cc e) (λ e. cc e) h)
lacks (fault.Layer (layer_fault.Value d e)) = inr (λ h. ⊎_elim (λ f. cc f) (λ f. cc f) h)
lacks (fault.Layer (layer_fault.Mixed d e)) = inr (λ h. ⊎_elim (λ f. cc f) (λ f. cc f) h)
lacks (fault.Layer layer_fault.Memory) = inl refl

module _ (fs : Tree) (reals : RealPathMap) (dir : List ℕ) (os paths : List (List ℕ)) (found : Result (Option (List ℕ)) Refusal) (home : Option (List ℕ))
    (at : found ≡ Ok home) (are : paths ≡ walked fs dir (home_beside reals dir home)) where
  pub map_under : (look : Path → Option RawCell) → IsLoadWith fs dir paths os look → IsMapUnder fs reals dir os found look
  map_under look is = subst (λ h. IsMapUnder fs reals dir os h look) (sym at) (subst (λ ps. IsLoadWith fs dir ps os look) are is)

  pub none_under : HasNoCauseWith fs dir paths os → (refusal : Refusal) → ¬ (IsCauseUnder fs reals dir os found refusal)
  none_under none refusal cause = go (subst (λ h. IsCauseUnder fs reals dir os h refusal) at cause)
    where
      go : IsErrorUnder fs dir (walked fs dir (home_beside reals dir home)) os refusal → ⊥
      go e = e.is_known (none e.fault (subst (λ ps. IsLoadWithCause fs dir ps os e.fault) (sym are) e.cause))

  pub error_under : (why : LoadFault) (refusal : Refusal) → IsLoadWithCause fs dir paths os why
      → (refusal ≡ plain memory) ⊎ (refusal ≡ refusal_for why) → (refusal ≡ plain memory) ⊎ IsCauseUnder fs reals dir os found refusal
  error_under why refusal cause (inl memory_out) = inl memory_out
  error_under why refusal cause (inr printed) = go (lacks why)
    where
      go : (refusal_for why ≡ plain memory) ⊎ (¬ (IsOutOfMemory why)) → (refusal ≡ plain memory) ⊎ IsCauseUnder fs reals dir os found refusal
      go (inl memory_out) = inl (printed ∙ memory_out)
      go (inr known) =
          inr (subst (λ h. IsCauseUnder fs reals dir os h refusal) (sym at)
          (record { fault = why; cause = subst (λ ps. IsLoadWithCause fs dir ps os why) are cause; is_known = known; printed = printed }))
