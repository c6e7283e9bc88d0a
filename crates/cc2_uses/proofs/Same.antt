-- Two answers to one question are one answer.
use Rattle.std.proofs.Common.{◌≡◌, Result, Ok, Err, IfOk, ap, sym, subst, ◌∙◌}
use Rattle.cargo_config2.specs.Commands.{Command}
use Rattle.cargo_config2.specs.Told.{Tree}
use Rattle.cargo_config2.specs.ToldPrograms.{Answers}
use Rattle.cargo_config2.specs.TargetTexts.{Target}
use Rattle.cargo_config2.proofs.Answering.{one_answer}
use Rattle.cargo_config2.specs.Settings.{Given}
use Rattle.cargo_config2.specs.TargetConfigs.{TargetAnswer}
use Rattle.cargo_config2.proofs.Keeping.{same_command, same_given}
use Rattle.cargo_config2.specs.CfgSets.{set_said}
use Rattle.cargo_config2.specs.Config.{tables_of}
use Rattle.cargo_config2.specs.Kept.{given_of}
use Rattle.cargo_config2.specs.RustcKept.{rustc_command_of}
use Rattle.cargo_config2.specs.TargetQueries.{IsQueryAnswer, IsSetting}
use Rattle.cargo_config2.specs.Targets.{IsTarget}
use Rattle.cargo_config2.specs.declared.config.Config.{Config}

-- also where the second is answered by a later configuration
pub same_answers : (fs : Tree) (answers : Answers) (was c : Config) → tables_of c ≡ tables_of was → c.loaded ≡ was.loaded
    → (t : Target) (a b : TargetAnswer) → IsQueryAnswer fs answers was t a → IsQueryAnswer fs answers c t b → a ≡ b
same_answers fs answers was c tables loaded t a b h k =
    one_answer (given_of was) t.triple (set_said (rustc_command_of fs was) answers t) a b h
    (subst (λ (m : Command). IsTarget (given_of was) m answers t b) (same_command fs answers was c tables loaded)
    (subst (λ (g : Given). IsTarget g (rustc_command_of fs c) answers t b) (same_given fs answers was c tables loaded) k))

-- so is one setting of them
pub same_settings : {A : Type 0} (fs : Tree) (answers : Answers) (was c : Config) → tables_of c ≡ tables_of was
    → c.loaded ≡ was.loaded → (t : Target) (setting : TargetAnswer → A) (v w : A) → IsSetting fs answers was t setting v
    → IsSetting fs answers c t setting w → w ≡ v
same_settings fs answers was c tables loaded t setting v w (a, h, first) (b, k, again) =
    again ∙ ap setting (sym (same_answers fs answers was c tables loaded t a b h k)) ∙ sym first

-- what a later configuration answers is what the earlier one does
pub setting_back : {A : Type 0} (fs : Tree) (answers : Answers) (was c : Config) → tables_of c ≡ tables_of was
    → c.loaded ≡ was.loaded → (t : Target) (setting : TargetAnswer → A) (v : A) → IsSetting fs answers c t setting v
    → IsSetting fs answers was t setting v
setting_back fs answers was c tables loaded t setting v (a, k, is) = (
  a,
  subst (λ (m : Command). IsTarget (given_of was) m answers t a) (same_command fs answers was c tables loaded)
      (subst (λ (g : Given). IsTarget g (rustc_command_of fs c) answers t a) (same_given fs answers was c tables loaded) k),
  is,
)

-- an answer that is there is one of more
pub if_ok : {T E : Type 0} (r : Result T E) (P Q : T → Type 0) → ((v : T) → P v → Q v) → IfOk r P → IfOk r Q
if_ok (Ok v) P Q more h = more v h
if_ok (Err e) P Q more h = tt
