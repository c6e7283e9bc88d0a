-- What is asked by Cargo's own rules of what the files of a directory have under overrides.
use Rattle.std.specs.Prelude.{◌≡◌, ℕ, List, Result, Err}
use Rattle.cc2_error.specs.Causes.{Refusal, memory, plain}
use Rattle.cc2_base.specs.Homes.{cargo_home_of}
use Rattle.cc2_base.specs.Told.{Tree}
use Rattle.cc2_base.specs.declared.machine.Machine.{Machine}
use Rattle.cc2_cargo.specs.Raw.{raw_members_at}
use Rattle.cc2_cargo.specs.RealPaths.{RealPathMap}
use Rattle.cargo_rules.specs.Loads.{IsCauseUnder, IsMapUnder}
use Rattle.cc2_cargo_target.specs.Target.{RawSettings}

module _ (fs : Tree) (reals : RealPathMap) (machine : Machine) (dir : List ℕ) (overrides : List (List ℕ)) where
  abbrev pub IsMap : RawSettings → Type 0
  IsMap settings = IsMapUnder fs reals dir overrides (cargo_home_of dir machine) (raw_members_at settings)

  abbrev pub IsCause : Refusal → Type 0
  IsCause refusal = IsCauseUnder fs reals dir overrides (cargo_home_of dir machine) refusal

  -- the files aren't loaded; or it is what a question comes to by what is loaded; or memory ran out
  pub data IsOverSettings {A : Type 0} (Is : RawSettings → Result A Refusal → Type 0) (outcome : Result A Refusal) : Type 0 where
    unloaded : (refusal : Refusal) → IsCause refusal → outcome ≡ Err refusal → IsOverSettings Is outcome
    by_settings : (settings : RawSettings) → IsMap settings → ((r : Refusal) → ¬ (IsCause r)) → Is settings outcome → IsOverSettings Is outcome
    without_memory : outcome ≡ Err (plain memory) → IsOverSettings Is outcome
