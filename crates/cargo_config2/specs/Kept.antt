-- When what queries keep agrees with what files and programs hold, and what is not lost.
use Rattle.std.specs.Prelude.{◌≡◌, ℕ, List, Option, codes, None, option_map, string_bytes, IsSome}
use Rattle.std.specs.BTreeMap.{get_by_text}
use Rattle.cc2_error.specs.Commands.{Command, command_of}
use Rattle.cc2_base.specs.Told.{Tree}
use Rattle.cc2_base.specs.ToldPrograms.{Answers}
use Rattle.cc2_env.specs.Options.{variables_of}
use Rattle.cc2_target.specs.Settings.{Given}
use Rattle.cc2_rustc.specs.AskedVersions.{Asked, AgreesOnVersions, KeepsVersions, known_host}
use Rattle.cc2_rustc.specs.ByName.{KeepsNames}
use Rattle.cc2_rustc.specs.CfgSets.{AgreesOnSets}
use Rattle.cc2_rustc.specs.Asked.{asked_for}
use Rattle.cargo_config2.specs.RustcKept.{AgreesOnRustc, rustc_settings, rustc_command_of}
use Rattle.cargo_config2.specs.Targets.{given_by, AgreesOnTargets}
use Rattle.cargo_config2.specs.declared.config.Config.{Config}

-- no settings of targets are kept
abbrev pub IsNoTargetKept : Config → Type 0
IsNoTargetKept c = (name : List ℕ) → get_by_text c.target name ≡ None

-- who is asked for versions and the host
abbrev pub asked_by : Tree → Config → Asked
asked_by fs c = asked_for fs (option_map string_bytes c.loaded.context.host_triple) (rustc_settings c)
    (variables_of c.loaded.context (codes "RUSTC_BOOTSTRAP"))

-- what the settings of targets are made of
abbrev pub given_of : Config → Given
given_of c = given_by c.loaded c.build

-- what is kept is what these files and programs give; so nothing is
pub record Agrees (fs : Tree) (answers : Answers) (c : Config) : Type 0 where
  pub rustc : AgreesOnRustc fs c
  pub versions : AgreesOnVersions (asked_by fs c) answers c.kept.versions
  pub sets : AgreesOnSets (rustc_command_of fs c) answers c.kept.cfg_sets
  pub targets : AgreesOnTargets (given_of c) (rustc_command_of fs c) answers c.target

-- what was kept is kept
pub record KeepsFinds (was c : Config) : Type 0 where
  pub rustc : IsSome was.kept.rustc → c.kept.rustc ≡ was.kept.rustc
  pub versions : KeepsVersions was.kept.versions c.kept.versions
  pub sets : KeepsNames was.kept.cfg_sets c.kept.cfg_sets
  pub targets : KeepsNames was.target c.target

-- the command for rustc that is kept
abbrev pub rustc_of : Config → Option Command
rustc_of c = option_map command_of c.kept.rustc

-- the triple of the host, chosen or kept
abbrev pub host_of : Config → Option (List ℕ)
host_of c = known_host (option_map string_bytes c.loaded.context.host_triple) c.kept.versions
