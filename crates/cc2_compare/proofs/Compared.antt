-- What both make of a directory's configuration, by what is reported of it.
use Rattle.std.proofs.Common.{◌≡◌, ◌⊎◌, inl, inr, ℕ, length, List, [], Bor, Result, Ok, Err, IfOk, IfErr, is_ok, ap, refl}
use Rattle.std.specs.Prelude.{not, ◌==◌, ◌&&◌}
use Rattle.std.proofs.lemmas.List.{length-map}
use Rattle.std.specs.Result.{result_map_both}
use Rattle.serde_json.specs.View.{view}
use Rattle.serde_json.specs.declared.value.Value.{Value}
use Rattle.cc2_answers.specs.Environments.{IsBuiltCause}
use Rattle.cc2_base.specs.Told.{Tree}
use Rattle.cc2_base.specs.declared.machine.Machine.{Machine}
use Rattle.cc2_cargo.specs.RealPaths.{RealPathMap}
use Rattle.cc2_error.specs.Causes.{Refusal, memory, refusal_of}
use Rattle.cc2_error.specs.Outcomes.{Answered, IsWantOfMemory}
use Rattle.cc2_error.specs.declared.error.Error.{Error}
use Rattle.cc2_reports.specs.Problems.{Subject}
use Rattle.cc2_value.specs.Rows.{texts_of}
use Rattle.cc2_compare.specs.Between.{AreBetween}
use Rattle.cc2_compare.specs.Maps.{IsOfCargoFiles, IsCargoJson, IsCargoRefusal, IsOfCrateFiles, IsCrateJson}
use Rattle.cc2_compare.specs.Reports.{are_looked_at}

module _ (fs : Tree) (reals : RealPathMap) (machine : Machine) (dir : List ℕ) (keys : List (List ℕ)) (subjects : List Subject) where
  -- an error that isn't want of memory has a cause
  known : (Is : Refusal → Type 0) (e : Error) → ((refusal_of e).cause ≡ memory → ⊥) → IsWantOfMemory e ⊎ Is (refusal_of e) → Is (refusal_of e)
  known Is e other (inl out) = absurd (other (ap (λ (r : Refusal). r.cause) out))
  known Is e other (inr is) = is

  -- where something is reported of both, memory didn't run out
  pub both_made : (of_crate of_cargo : Result Value Error) → Answered view of_crate (IsCrateJson fs machine dir) (IsBuiltCause fs machine dir [])
      → IfOk of_cargo (λ json. IsCargoJson fs reals machine dir (view json))
      → IfErr of_cargo (λ e. IsWantOfMemory e ⊎ IsCargoRefusal fs reals machine dir (refusal_of e))
      → AreBetween dir keys (result_map_both view refusal_of of_crate) (result_map_both view refusal_of of_cargo) subjects
      → IsOfCrateFiles fs machine dir (result_map_both view refusal_of of_crate)
      × IsOfCargoFiles fs reals machine dir (result_map_both view refusal_of of_cargo)
  both_made (Ok of_crate) (Ok of_cargo) told ok refused are = (told, ok)
  both_made (Ok of_crate) (Err e) told ok refused are = (told, known (IsCargoRefusal fs reals machine dir) e are.0 refused)
  both_made (Err e) (Ok of_cargo) told ok refused are = (known (IsBuiltCause fs machine dir []) e are.0 told, ok)
  both_made (Err e) (Err other) told ok refused are =
      (known (IsBuiltCause fs machine dir []) e are.0 told, known (IsCargoRefusal fs reals machine dir) other are.1 refused)

-- whether targets are looked at, by the results of the code
pub looked_at : (of_crate of_cargo : Result Value Error) (targets : List (Bor (List ℕ)))
    → are_looked_at (result_map_both view refusal_of of_crate) (result_map_both view refusal_of of_cargo) (texts_of targets)
    ≡ (is_ok of_crate && is_ok of_cargo && not (length targets == 0))
looked_at (Ok of_crate) (Ok of_cargo) targets = ap (λ n. not (n == 0)) (length-map targets (λ t. t.now))
looked_at (Ok of_crate) (Err e) targets = refl
looked_at (Err e) of_cargo targets = refl
