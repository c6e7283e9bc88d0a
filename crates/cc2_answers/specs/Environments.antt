-- A load from a directory under a machine's variables, and then under overrides.
use Rattle.std.specs.Prelude.{◌≡◌, ◌⊎◌, ℕ, List, codes, Option, None, Err}
use Rattle.cc2_error.specs.Causes.{Refusal}
use Rattle.cc2_base.specs.Homes.{cargo_home_of}
use Rattle.cc2_base.specs.Told.{Tree}
use Rattle.cc2_base.specs.declared.machine.Machine.{Machine}
use Rattle.cc2_value.specs.Cells.{Cell, KeyPath}
use Rattle.cc2_env.specs.CommandLine.{Override}
use Rattle.cc2_env.specs.Kept.{Variables, kept_of}
use Rattle.cc2_env.specs.Options.{cargo_of}
use Rattle.cc2_de.specs.LoadOver.{IsLoadOver, IsLoadOverCause}

-- the variables of a machine that are looked at
abbrev pub machine_variables : Machine → Variables
machine_variables machine name = kept_of machine.env.items name

-- m is the map of the files from the directory upwards, under the machine's variables and then under overrides
abbrev pub IsBuilt : Tree → Machine → List ℕ → List Override → (KeyPath → Option Cell) → Type 0
IsBuilt fs machine dir os m = IsLoadOver fs dir (cargo_home_of dir machine) (machine_variables machine) os m

-- `CARGO` is refused; or `CARGO_HOME`, a file, a variable that is looked at, or an override
abbrev pub IsBuiltCause : Tree → Machine → List ℕ → List Override → Refusal → Type 0
IsBuiltCause fs machine dir os refusal =
    (cargo_of None (machine_variables machine (codes "CARGO")) ≡ Err refusal)
    ⊎ IsLoadOverCause fs dir (cargo_home_of dir machine) (machine_variables machine) os refusal
