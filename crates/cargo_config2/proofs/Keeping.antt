-- What is kept agrees on, where the tables and what queries read beside them stay.
use Rattle.std.proofs.Common.{◌≡◌, ℕ, List, Option, Some, None, Result, Ok, Err, IfOk, codes, option_map, string_bytes, IsSome, refl, ap, sym, subst, true≢false, ◌∙◌}
use Rattle.std.specs.Prelude.{unwrap_or}
use Rattle.cc2_env.specs.Options.{variables_of}
use Rattle.cc2_error.specs.Causes.{Refusal}
use Rattle.cc2_error.specs.Commands.{Command}
use Rattle.cc2_error.specs.Outcomes.{Gives}
use Rattle.cc2_error.specs.declared.error.Error.{Error}
use Rattle.cc2_base.specs.Told.{Tree}
use Rattle.cc2_base.specs.ToldPrograms.{Answers}
use Rattle.cc2_resolved_tables.specs.declared.build.BuildConfig.{BuildConfig}
use Rattle.cc2_resolved_tables.specs.declared.tables.Tables.{Tables}
use Rattle.cc2_resolved.specs.Targets.{Target}
use Rattle.cc2_target.specs.Settings.{Given}
use Rattle.cc2_resolved.specs.TargetConfigs.{TargetAnswer}
use Rattle.cc2_rustc.specs.AskedVersions.{Asked, AgreesOnVersions, known_host, host_said, host_unless, told_host}
use Rattle.cc2_rustc.specs.declared.kept_versions.Versions.{Versions}
use Rattle.cc2_rustc.specs.Asked.{asked_for}
use Rattle.cc2_rustc.specs.CfgSets.{AgreesOnSets}
use Rattle.cc2_rustc.specs.Kept.{IsKeptAs}
use Rattle.cargo_config2.specs.Config.{tables_of}
use Rattle.cargo_config2.specs.Kept.{Agrees, asked_by, given_of}
use Rattle.cc2_rustc.specs.Lists.{AgreesOnLists}
use Rattle.cargo_config2.specs.RustcKept.{settings_in, rustc_settings, rustc_command_of}
use Rattle.cc2_rustc.specs.Rustc.{is_there, rustc_command}
use Rattle.cargo_config2.specs.Targets.{AgreesOnTargets, given_by, IsTargetAlone, Settings as KeptSettings}
use Rattle.cargo_config2.specs.declared.config.Config.{Config}
use Rattle.cargo_config2.specs.declared.config.Loaded.{Loaded}

abbrev asked_in : Tree → Loaded → BuildConfig → Asked
asked_in fs l build = asked_for fs (option_map string_bytes l.context.host_triple) (settings_in l.context build)
    (variables_of l.context (codes "RUSTC_BOOTSTRAP"))

module _ (fs : Tree) (answers : Answers) (was c : Config) (tables : tables_of c ≡ tables_of was) (loaded : c.loaded ≡ was.loaded) where
  same_settings : rustc_settings c ≡ rustc_settings was
  same_settings = ap (λ (l : Loaded). settings_in l.context c.build) loaded
      ∙ ap (λ (t : Tables). settings_in was.loaded.context t.build) tables

  pub same_command : rustc_command_of fs c ≡ rustc_command_of fs was
  same_command = ap (rustc_command (is_there fs)) same_settings

  pub same_asked : asked_by fs c ≡ asked_by fs was
  same_asked = ap (λ (l : Loaded). asked_in fs l c.build) loaded ∙ ap (λ (t : Tables). asked_in fs was.loaded t.build) tables

  -- the settings of targets are made of the same
  pub same_given : given_of c ≡ given_of was
  same_given = ap (λ (l : Loaded). given_by l c.build) loaded ∙ ap (λ (t : Tables). given_by was.loaded t.build) tables

  -- what is kept agrees, where it agrees with what the first one asks
  pub agrees_anew : AgreesOnLists (rustc_command_of fs was) answers c.kept
      → AgreesOnVersions (asked_by fs was) answers c.kept.versions
      → AgreesOnTargets (given_of was) (rustc_command_of fs was) answers c.target → Agrees fs answers c
  agrees_anew lists versions targets = record {
    rustc = subst (λ (command : Command). IsKeptAs c.kept.rustc command) (sym same_command) lists.command;
    versions = subst (λ (s : Asked). AgreesOnVersions s answers c.kept.versions) (sym same_asked) versions;
    sets = subst (λ (command : Command). AgreesOnSets command answers c.kept.cfg_sets) (sym same_command) lists.sets;
    targets = subst (λ (command : Command). AgreesOnTargets (given_of c) command answers c.target) (sym same_command)
        (subst (λ (g : Given). AgreesOnTargets g (rustc_command_of fs was) answers c.target) (sym same_given) targets);
  }

  -- where what is kept of rustc's lists agrees as before, and all else stays, all agrees
  pub lists_anew : (command : Command) → command ≡ rustc_command_of fs was
      → (AgreesOnLists command answers was.kept → AgreesOnLists command answers c.kept)
      → c.kept.versions ≡ was.kept.versions → c.target ≡ was.target → Agrees fs answers was → Agrees fs answers c
  lists_anew command is found versions targets h =
      agrees_anew
      (subst (λ (m : Command). AgreesOnLists m answers c.kept) is
      (found (subst (λ (m : Command). AgreesOnLists m answers was.kept) (sym is) (record { command = h.rustc; sets = h.sets }))))
      (subst (λ (v : Versions). AgreesOnVersions (asked_by fs was) answers v) (sym versions) h.versions)
      (subst (λ (t : KeptSettings). AgreesOnTargets (given_of was) (rustc_command_of fs was) answers t) (sym targets) h.targets)

  -- the settings of a target, and that there is no cause, are the same by both
  pub same_answer : (t : Target) (a : TargetAnswer) → IsTargetAlone (given_of was) (rustc_command_of fs was) answers t a
      → IsTargetAlone (given_of c) (rustc_command_of fs c) answers t a
  same_answer t a is =
      subst (λ (m : Command). IsTargetAlone (given_of c) m answers t a) (sym same_command)
      (subst (λ (g : Given). IsTargetAlone g (rustc_command_of fs was) answers t a) (sym same_given) is)

-- a host that is known is the one that is printed
pub known_said : (s : Asked) (answers : Answers) (kept : Versions) → AgreesOnVersions s answers kept → (host : List ℕ)
    → known_host s.host kept ≡ Some host → host_said s answers ≡ Ok host
known_said s answers kept agrees host is = by s.host is
  where
    by : (chosen : Option (List ℕ)) → known_host chosen kept ≡ Some host → host_unless chosen (told_host s answers) ≡ Ok host
    by (Some h) e = ap Ok (ap (λ o. unwrap_or o h) e)
    by None e = agrees.host host e

-- a value that is there is the one taken for it
pub some_there : {A : Type 0} (o : Option A) (other : A) → IsSome o → o ≡ Some (unwrap_or o other)
some_there (Some value) other there = refl
some_there None other there = absurd (true≢false (sym there))

-- an answer that is given is the one that is stated
pub given_answer : {T A : Type 0} (view : T → A) (result : Result T Error) (stated : Result A Refusal)
    → Gives view result stated → IfOk result (λ value. stated ≡ Ok (view value))
given_answer view (Ok value) stated h = h
given_answer view (Err e) stated h = tt
