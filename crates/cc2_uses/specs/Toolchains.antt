-- What a subcommand builds with, by the definitions of the library.
use Rattle.std.specs.Prelude.{◌≡◌, ℕ, List, Some, option_map}
use Rattle.cargo_config2.specs.Told.{Tree}
use Rattle.cargo_config2.specs.ToldPrograms.{Answers}
use Rattle.cargo_config2.specs.Machine.{Machine}
use Rattle.cargo_config2.specs.TargetTexts.{Target, target_of}
use Rattle.cargo_config2.specs.Answers.{flags_answer, text_answer}
use Rattle.cargo_config2.specs.Loads.{IsConfig, nothing_chosen}
use Rattle.cargo_config2.specs.TargetQueries.{IsSetting}
use Rattle.cargo_config2.specs.declared.config.Config.{Config}
use Rattle.cc2_uses.specs.declared.subcommand.Toolchain.{Toolchain}

-- its linker and flags are those of the target
pub record IsToolchain (fs : Tree) (answers : Answers) (c : Config) (t : Target) (made : Toolchain) : Type 0 where
  pub linker : IsSetting fs answers c t (λ a. a.linker) (option_map text_answer made.linker)
  pub rustflags : IsSetting fs answers c t (λ a. a.rustflags) (option_map flags_answer made.rustflags)

-- by the configuration that the load of the directory gives, for the target of the text
abbrev pub IsToolchainOf : Tree → Answers → Machine → List ℕ → List ℕ → Toolchain → Type 0
IsToolchainOf fs answers machine cwd text made =
    (c : Config) × (t : Target) × IsConfig fs machine cwd nothing_chosen c × (target_of text ≡ Some t)
    × IsToolchain fs answers c t made
