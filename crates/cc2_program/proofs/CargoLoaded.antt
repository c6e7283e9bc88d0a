-- What an answer prints of a question over what is loaded by Cargo's own rules.
use Rattle.std.proofs.Common.{ℕ, List, Result, sym, subst, inl, inr}
use Rattle.cc2_base.specs.Told.{Tree}
use Rattle.cc2_base.specs.declared.machine.Machine.{Machine}
use Rattle.cc2_cargo.specs.RealPaths.{RealPathMap}
use Rattle.cc2_error.specs.Causes.{Refusal}
use Rattle.cc2_cargo_target.specs.Target.{RawSettings}
use Rattle.cc2_cli.specs.Answers.{answer_text, Shows}
use Rattle.cc2_cli.specs.declared.answer.Answer.{Answer}
use Rattle.cc2_program.specs.CargoLoads.{PrintsOverSettings}
use Rattle.cc2_target_answers.specs.CargoLoads.{IsOverSettings, without_memory}

module _ {A : Type 0} (fs : Tree) (reals : RealPathMap) (machine : Machine) (dir : List ℕ) (overrides : List (List ℕ)) (Is : RawSettings → Result A Refusal → Type 0) where
  pub prints : (lines : A → List ℕ) (outcome : Result A Refusal) (answer : Answer) → IsOverSettings fs reals machine dir overrides Is outcome
      → Shows lines outcome answer → PrintsOverSettings fs reals machine dir overrides lines Is (answer_text answer) answer.status
  prints lines outcome answer is (stated, inl same, text, status) =
      (stated, subst (IsOverSettings fs reals machine dir overrides Is) (sym same) is, text, status)
  prints lines outcome answer is (stated, inr lacks, text, status) = (stated, without_memory lacks, text, status)
