-- What a composed answer shows of the command for rustc of a load.
use Rattle.std.proofs.Common.{◌≡◌, ℕ, List, Option, Result, Vec, Global, IfOk, sym, subst}
use Rattle.cc2_error.specs.Commands.{Command}
use Rattle.cc2_base.specs.Told.{Tree}
use Rattle.cc2_error.specs.declared.error.NoMemory.{NoMemory}
use Rattle.cc2_base.specs.declared.machine.Machine.{Machine}
use Rattle.cc2_error.specs.declared.path_and_args.PathAndArgs.{PathAndArgs}
use Rattle.cc2_rustc.specs.Kept.{IsKeptAs}
use Rattle.cargo_config2.specs.RustcKept.{AgreesOnRustc, rustc_command_of}
use Rattle.cargo_config2.specs.declared.config.Config.{Config}
use Rattle.cc2_env.specs.CommandLine.{Override}
use Rattle.cc2_answers.specs.Choices.{IsConfigUnder}
use Rattle.cc2_cli.specs.CommandLines.{rustc_lines}

-- lines of one command are those of another that is the same
pub lines_of : (text : Result (Vec ℕ Global) NoMemory) (lent found : Command)
    → lent ≡ found → IfOk text (λ t. t.items ≡ rustc_lines lent) → IfOk text (λ t. t.items ≡ rustc_lines found)
lines_of text lent found is h = subst (λ (command : Command). IfOk text (λ t. t.items ≡ rustc_lines command)) is h

-- a loaded configuration keeps nothing yet
pub agrees : (fs : Tree) (machine : Machine) (dir : List ℕ) (os : List Override) (config : Config)
    → IsConfigUnder fs machine dir os config → AgreesOnRustc fs config
agrees fs machine dir os config h =
    subst (λ (kept : Option PathAndArgs). IsKeptAs kept (rustc_command_of fs config)) (sym h.2.nothing_kept.rustc) tt
