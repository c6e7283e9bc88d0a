-- What Cargo 1.95 uses for host artifacts, which are build scripts and procedural macros: what it uses for the host; where
-- targets are given, the host's linker alone. Cargo Reference, Configuration, `build.rustflags`, `target.<triple>.linker`.
use Rattle.std.specs.Prelude.{◌≡◌, ℕ, Bool, true, false, is_some, codes, List, [], ◌∷◌, Option, None, Result, Ok, Err, string_bytes}
use Rattle.cc2_error.specs.Causes.{Refusal}
use Rattle.cc2_error.specs.Commands.{Command}
use Rattle.cc2_base.specs.ToldPrograms.{Answers}
use Rattle.cc2_base.specs.declared.machine.Machine.{Machine}
use Rattle.cc2_rustc.specs.AskedVersions.{rustc_host}
use Rattle.cc2_resolved.specs.TargetConfigs.{TargetAnswer, shown}
use Rattle.cc2_value.specs.Cells.{Word}
use Rattle.cc2_cargo.specs.Raw.{Path, RawCell, raw_members_at}
use Rattle.cc2_cargo_settings.specs.TextOrList.{text_or_list_at}
use Rattle.cc2_cargo_settings.specs.Values.{on_ok}
use Rattle.cc2_cargo_target.specs.Settling.{MatchWith, have_cfg}
use Rattle.cc2_cargo_target.specs.Target.{IsTarget, RawSettings, checked_keys, finished}
use Rattle.cc2_cargo_target.specs.Targets.{all_requested, texts_or}
use Rattle.cc2_cargo_target.specs.declared.host_artifacts.HostArtifacts.{HostArtifacts}

-- the host, with the settings of host artifacts
pub record HostAnswer : Type 0 where
  pub host : List ℕ
  pub settings : TargetAnswer

abbrev pub artifacts_view : HostArtifacts → HostAnswer
artifacts_view a = record { host = string_bytes a.host; settings = shown a.settings }

-- targets are given, by the command line or by `build.target`: an empty list there counts
abbrev pub are_given : List (List ℕ) → Option (List Word) → Bool
are_given [] set = is_some set
are_given (text ∷ texts) set = true

-- whether targets are given, or why one of them is refused
abbrev pub targets_given : (Path → Option RawCell) → Machine → List (List ℕ) → Result Bool Refusal
targets_given look machine texts =
    on_ok (λ set. on_ok (λ requested. Ok (are_given texts set)) (all_requested (texts_or texts set)))
    (text_or_list_at look machine (codes "build" ∷ (codes "target" ∷ [])) (codes "CARGO_BUILD_TARGET"))

abbrev pub linker_alone : TargetAnswer → TargetAnswer
linker_alone t = record { linker = t.linker; runner = None; rustflags = None; rustdocflags = None }

abbrev pub without_runner : TargetAnswer → TargetAnswer
without_runner t = record { linker = t.linker; runner = None; rustflags = t.rustflags; rustdocflags = t.rustdocflags }

-- no host artifact is run by a runner; where targets are given none is built with flags
abbrev pub kept_for : Bool → TargetAnswer → TargetAnswer
kept_for true t = linker_alone t
kept_for false t = without_runner t

module _ (rustc : Command) (answers : Answers) (host : List ℕ) (keys : List (List ℕ)) where
  abbrev pub MatchIfAny : Bool → Result (List (List ℕ)) Refusal → Type 0
  MatchIfAny true matching = MatchWith rustc answers host keys [] matching
  MatchIfAny false matching = matching ≡ Ok []

  -- the keys that match by what rustc prints without flags
  abbrev pub MatchWithoutFlags : Result (List (List ℕ)) Refusal → Type 0
  MatchWithoutFlags matching = MatchIfAny (have_cfg keys) matching

module _ (settings : RawSettings) (machine : Machine) (dir : List ℕ) (rustc : Command) (answers : Answers) where
  -- what the host has where these keys match, without flags for rustc
  abbrev pub finished_bare : List ℕ → List (List ℕ) → Result TargetAnswer Refusal
  finished_bare host matching = finished settings machine dir host (record { flags = []; matching = matching })

  abbrev pub IsBareFrom : List ℕ → Result (List (List ℕ)) Refusal → Result TargetAnswer Refusal → Type 0
  IsBareFrom host (Ok keys) target =
      (matching : Result (List (List ℕ)) Refusal) × MatchWithoutFlags rustc answers host keys matching
      × (target ≡ on_ok (finished_bare host) matching)
  IsBareFrom host (Err refusal) target = target ≡ Err refusal

  -- what the host has without flags for rustc
  abbrev pub IsBare : List ℕ → Result TargetAnswer Refusal → Type 0
  IsBare host target = IsBareFrom host (checked_keys settings machine) target

  -- what the host has: flags of the settings count where no targets are given
  abbrev pub IsHost : Bool → List ℕ → Result TargetAnswer Refusal → Type 0
  IsHost true host target = IsBare host target
  IsHost false host target = IsTarget settings machine dir host rustc answers target

  -- what host artifacts have of it
  abbrev pub AreSettings : Bool → List ℕ → Result TargetAnswer Refusal → Type 0
  AreSettings given host kept =
      (target : Result TargetAnswer Refusal) × IsHost given host target × (kept ≡ on_ok (λ t. Ok (kept_for given t)) target)

  abbrev pub AreHostArtifactsFrom : Result Bool Refusal → Result (List ℕ) Refusal → Result HostAnswer Refusal → Type 0
  AreHostArtifactsFrom (Ok given) (Ok host) found =
      (kept : Result TargetAnswer Refusal) × AreSettings given host kept
      × (found ≡ on_ok (λ s. Ok (record { host = host; settings = s })) kept)
  AreHostArtifactsFrom (Ok given) (Err refusal) found = found ≡ Err refusal
  AreHostArtifactsFrom (Err refusal) host found = found ≡ Err refusal

  -- what host artifacts have, where these targets are asked for, or why they have nothing
  abbrev pub AreHostArtifacts : List (List ℕ) → Result HostAnswer Refusal → Type 0
  AreHostArtifacts texts found =
      AreHostArtifactsFrom (targets_given (raw_members_at settings) machine texts) (rustc_host false answers rustc) found
