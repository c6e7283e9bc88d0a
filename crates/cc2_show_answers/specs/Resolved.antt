-- What is printed of the resolved configuration of a directory.
use Rattle.std.specs.Prelude.{◌≡◌, ℕ, List, Option, false}
use Rattle.cc2_base.specs.Told.{Tree}
use Rattle.cc2_base.specs.declared.machine.Machine.{Machine}
use Rattle.cc2_env.specs.CommandLine.{Override}
use Rattle.cc2_value.specs.Cells.{Cell, KeyPath}
use Rattle.cargo_config2.specs.Config.{shown}
use Rattle.cargo_config2.specs.declared.config.Config.{Config}
use Rattle.cc2_answers.specs.Choices.{IsConfigUnder, IsConfigUnderCause}
use Rattle.cc2_resolved_json.specs.Plain.{plain_at}
use Rattle.cc2_show_answers.specs.ToldRuns.{Tells, Written}
use Rattle.cc2_cli.specs.ShowWords.{Request}

-- the request without where values were set
abbrev pub plainly : Request → Request
plainly request = record request { origins = false }

-- the map of a resolved configuration that the directory has under overrides: each value without where it was set
abbrev pub IsResolvedMap : Tree → Machine → List ℕ → List Override → (KeyPath → Option Cell) → Type 0
IsResolvedMap fs machine dir os m = (c : Config) × IsConfigUnder fs machine dir os c × (m ≡ plain_at (shown c))

-- what is printed of it, or of the value at the pieces of a key
abbrev pub ShowsResolved : Tree → Machine → List Override → Request → List (List ℕ) → Written → Type 0
ShowsResolved fs machine os request pieces w =
    Tells (plainly request) pieces (IsResolvedMap fs machine request.dir os) (IsConfigUnderCause fs machine request.dir os) w
