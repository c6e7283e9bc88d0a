-- What one question more is answered.
use Rattle.std.proofs.Common.{◌≡◌, subst}
use Rattle.cargo_config2.specs.Causes.{Refusal}
use Rattle.cargo_config2.specs.Commands.{Command}
use Rattle.cargo_config2.specs.Config.{tables_of}
use Rattle.cargo_config2.specs.Kept.{given_of}
use Rattle.cargo_config2.specs.RustcKept.{rustc_command_of}
use Rattle.cargo_config2.specs.Settings.{Given}
use Rattle.cargo_config2.specs.TargetConfigs.{TargetAnswer}
use Rattle.cargo_config2.specs.TargetQueries.{IsQueryCause, IsSetting}
use Rattle.cargo_config2.specs.TargetTexts.{Target}
use Rattle.cargo_config2.specs.Targets.{IsTarget, IsTargetCause}
use Rattle.cargo_config2.specs.Told.{Tree}
use Rattle.cargo_config2.specs.ToldPrograms.{Answers}
use Rattle.cargo_config2.specs.declared.config.Config.{Config}
use Rattle.cargo_config2.proofs.Keeping.{same_command, same_given}

-- what is said of the settings and the causes by a later configuration holds of those by the earlier one
pub answered_back : {A : Type 0} (fs : Tree) (answers : Answers) (was c : Config) → tables_of c ≡ tables_of was
    → c.loaded ≡ was.loaded → (t : Target) (setting : TargetAnswer → A)
    (Says : (A → Type 0) → (Refusal → Type 0) → Type 0)
    → Says (IsSetting fs answers c t setting) (IsQueryCause fs answers c t)
    → Says (IsSetting fs answers was t setting) (IsQueryCause fs answers was t)
answered_back fs answers was c tables loaded t setting Says h =
    subst (λ (m : Command). Says (λ v. (a : TargetAnswer) × IsTarget (given_of was) m answers t a × (v ≡ setting a))
    (IsTargetCause (given_of was) m answers t)) (same_command fs answers was c tables loaded)
    (subst (λ (g : Given). Says (λ v. (a : TargetAnswer) × IsTarget g (rustc_command_of fs c) answers t a × (v ≡ setting a))
    (IsTargetCause g (rustc_command_of fs c) answers t)) (same_given fs answers was c tables loaded) h)
