-- From what is loaded to what is printed.
use Rattle.std.proofs.Common.{◌≡◌, ◌⊎◌, ℕ, List, Option, Result, Ok, Err, inl, inr, refl, sym, ap, subst}
use Rattle.std.specs.Result.{result_map_both}
use Rattle.cc2_error.specs.Causes.{Refusal, memory, plain, refusal_of}
use Rattle.cc2_error.specs.Outcomes.{Answered, Gives}
use Rattle.cc2_error.specs.declared.error.Error.{Error}
use Rattle.cc2_base.specs.Told.{Tree}
use Rattle.cc2_base.specs.declared.machine.Machine.{Machine}
use Rattle.cc2_cargo.specs.Raw.{Path, RawCell, raw_members_at}
use Rattle.cc2_cargo.specs.RealPaths.{RealPathMap}
use Rattle.cc2_cargo_answers.specs.Gives.{CargoGives, IsLoaded, IsOfLayers, IsOrMemory, IsShownOf, IsUnloaded, loaded, printed, unloaded, without_memory}
use Rattle.cc2_cargo_answers.specs.Layers.{LayersShown, files, all}
use Rattle.cc2_cargo_settings.specs.Named.{RawTable}
use Rattle.cc2_cargo_settings.specs.Under.{under}
use Rattle.cc2_cli.specs.Answers.{Refuses}
use Rattle.cc2_cli.specs.ShowWords.{Request}
use Rattle.cc2_cli.specs.declared.answer.Answer.{Answer}
use Rattle.cc2_show_answers.specs.ShowQuestions.{IsKeyIn}
use Rattle.cc2_show_answers.specs.ToldAnswers.{written}
use Rattle.cc2_show_answers.specs.ToldRuns.{IsRefused, Written}
use Rattle.cc2_show_answers.specs.declared.told.Told.TheVariants as told

module _ (fs : Tree) (reals : RealPathMap) (machine : Machine) (dir : List ℕ) (pieces : List (List ℕ)) where
  -- why nothing is loaded, or that memory ran out
  pub not_loaded : (layers : LayersShown) (refusal : Refusal) → (refusal ≡ plain memory) ⊎ IsUnloaded fs reals machine dir layers refusal
      → IsOrMemory (IsOfLayers fs reals machine dir layers pieces) (Err refusal)
  not_loaded layers refusal (inl memory_out) = inr (ap Err memory_out)
  not_loaded layers refusal (inr cause) = inl (unloaded refusal cause refl)

  -- the files alone
  pub of_files : (r : Result RawTable Error)
      → Answered raw_members_at r (IsLoaded fs reals machine dir files) (IsUnloaded fs reals machine dir files)
      → IsOrMemory (IsOfLayers fs reals machine dir files pieces) (result_map_both raw_members_at refusal_of r)
  of_files (Ok settings) (is, none) = inl (loaded settings is none refl)
  of_files (Err e) why = not_loaded files (refusal_of e) why

  -- the files under variables and overrides
  pub of_all : (os : List (List ℕ)) (settings : RawTable) (r : Result RawTable Error)
      → IsLoaded fs reals machine dir (all os) (raw_members_at settings)
      → ((refusal : Refusal) → ¬ (IsUnloaded fs reals machine dir (all os) refusal))
      → Gives raw_members_at r (under settings machine pieces)
      → IsOrMemory (IsOfLayers fs reals machine dir (all os) pieces) (result_map_both raw_members_at refusal_of r)
  of_all os settings (Ok new) is none given = inl (loaded settings is none (sym given))
  of_all os settings (Err e) is none (inl memory_out) = inr (ap Err memory_out)
  of_all os settings (Err e) is none (inr refused) = inl (loaded settings is none (sym refused))

module _ (fs : Tree) (reals : RealPathMap) (machine : Machine) (layers : LayersShown) (request : Request) (pieces : List (List ℕ))
    (keyed : IsKeyIn request.key pieces) where
  -- what is shown, or that memory ran out
  pub of_settings : (settings : RawTable) (w : Written) → IsOrMemory (IsOfLayers fs reals machine request.dir layers pieces) (Ok (raw_members_at settings))
      → IsShownOf request pieces (raw_members_at settings) w ⊎ IsRefused (plain memory) w → CargoGives fs reals machine layers request w
  of_settings settings w (inl is) (inl shown) = printed pieces (Ok (raw_members_at settings)) keyed is shown
  of_settings settings w (inl is) (inr lacks) = without_memory lacks
  of_settings settings w (inr apart) shown = cc apart

  -- the lines of an error
  pub of_error : (refusal : Refusal) (answer : Answer) → IsOrMemory (IsOfLayers fs reals machine request.dir layers pieces) (Err refusal)
      → Refuses refusal answer → CargoGives fs reals machine layers request (written (told.Shown answer))
  of_error refusal answer outcome (stated, is, text, status) = go outcome is
    where
      lines : IsRefused stated (written (told.Shown answer))
      lines = record { out = text; err = refl; status = status }

      at : (other : Refusal) → stated ≡ other → IsRefused other (written (told.Shown answer))
      at other same = subst (λ r. IsRefused r (written (told.Shown answer))) same lines

      Lines : Result (Path → Option RawCell) Refusal → Type 0
      Lines (Ok look) = Unit {0}
      Lines (Err r) = IsRefused r (written (told.Shown answer))

      go : IsOrMemory (IsOfLayers fs reals machine request.dir layers pieces) (Err refusal) → (stated ≡ refusal) ⊎ (stated ≡ plain memory)
          → CargoGives fs reals machine layers request (written (told.Shown answer))
      go outcome (inr none) = without_memory (at (plain memory) none)
      go (inl of) (inl same) = printed pieces (Err refusal) keyed of (at refusal same)
      go (inr lacks) (inl same) = without_memory (subst Lines lacks (at refusal same))
