-- What a run of a command writes, and the status that it ends with.
use Rattle.std.specs.Prelude.{◌≡◌, ◌⊎◌, ℕ, Bool, List, [], ◌++◌, codes, map, string_bytes, unwrap_or}
use Rattle.cc2_answers.specs.Questions.{TaskAsksGives, TaskGives}
use Rattle.cc2_cargo_answers.specs.Gives.{CargoGives}
use Rattle.cc2_cargo_answers.specs.Layers.{LayersShown}
use Rattle.cc2_command_line.specs.declared.choice.Rules.{Rules}
use Rattle.cc2_command_line.specs.declared.choice.Rules.TheVariants as rules
use Rattle.cc2_cargo.specs.RealPaths.{RealPathMap}
use Rattle.cc2_program.specs.CargoPrograms.{PrintsCargoHost, PrintsCargoRustc}
use Rattle.cc2_program.specs.CargoTargets.{PrintsCargoTargets}
use Rattle.cc2_command_line.specs.Commands.{Command, Get, Targets, get, target, rustc, host, version, lint}
use Rattle.cc2_command_line.specs.Lines.{Line}
use Rattle.cc2_base.specs.Told.{Tree, WhereTold}
use Rattle.cc2_base.specs.ToldPrograms.{Answers}
use Rattle.cc2_base.specs.declared.machine.Machine.{Machine}
use Rattle.cc2_program.specs.Lints.{LintFinds, LintGives}
use Rattle.cc2_program.specs.Overrides.{choice_by}
use Rattle.cc2_program.specs.Queries.{PrintsTargets, PrintsVersions}
use Rattle.cc2_program.specs.Requests.{layers_of, request_of}
use Rattle.cc2_program.specs.Streams.{IsAnswerOrError, IsOnOneStream, by_status, failed, out_of_memory, told_streams}
use Rattle.cc2_show_answers.specs.Gets.{GetGives}
use Rattle.cc2_show_answers.specs.ShowQuestions.{IsNoKeyIn}
use Rattle.cc2_show_answers.specs.ToldRuns.{Written}
use Rattle.cc2_cli.specs.Choices.{Choice}
use Rattle.cc2_cli.specs.ShowWords.{Request}
use Rattle.cc2_cli.specs.GetWords.{rustc as asks_rustc, host as asks_host}
use Rattle.cc2_program.specs.Worlds.{WhereBoth}
use Rattle.cargo_rules.specs.WithEnv.{AnswersWith}

-- a text and a status that this gives, on the stream that the status says
abbrev pub TaskWrites : (List ℕ → ℕ → Type 0) → Written → Type 0
TaskWrites Gives w = (text : List ℕ) × (status : ℕ) × Gives text status × (w ≡ by_status text status)

-- the error of a key that isn't well formed
abbrev pub key_error : List ℕ → List ℕ
key_error key = codes "error: invalid key `" ++ (key ++ codes "`: expected names with `.` between them\n")

-- what `get` writes whatever files there are: a key that isn't well formed is an error with the status 2
abbrev pub GetAlways : Get → Written → Type 0
GetAlways g w =
    IsOnOneStream w × (IsNoKeyIn g.key → (w ≡ failed (key_error (unwrap_or g.key [])) 2) ⊎ (w ≡ out_of_memory))

-- what a command writes, in colours or without, whatever files and programs there are
abbrev pub CommandAlways : Bool → Command → Bool → Written → Type 0
CommandAlways is_coloured (get g) quiet w = GetAlways g w
CommandAlways is_coloured (target t) quiet w = IsAnswerOrError w
CommandAlways is_coloured (rustc rules) quiet w = IsOnOneStream w
CommandAlways is_coloured (host rules) quiet w = IsOnOneStream w
CommandAlways is_coloured version quiet w = IsAnswerOrError w
CommandAlways is_coloured (lint l) quiet w = LintGives is_coloured l quiet w

module _ (fs : Tree) (machine : Machine) where
  -- the overrides of a line, the strongest last
  abbrev pub choices_for : Line → List Choice
  choices_for line = map (choice_by fs (string_bytes machine.current_dir)) line.configs

-- what Cargo's own rules give is so by each map of real paths that `reals` allows; the crate's rules need no real path
module _ (fs : Tree) (reals : RealPathMap → Type 0) (machine : Machine) where
  -- what is shown of a request by these rules: by the crate's under these choices, by Cargo's own of these layers
  abbrev pub RulesGive : Rules → List Choice → LayersShown → Request → Written → Type 0
  RulesGive rules.Crate choices layers request w = GetGives fs machine request choices w
  RulesGive rules.Cargo choices layers request w = WhereTold reals (λ real_paths. CargoGives fs real_paths machine layers request w)

  -- what `get` writes: what is shown at the key, which is well formed; for Cargo's own rules the overrides are as they are given
  abbrev pub GetWrites : List Choice → List (List ℕ) → Get → Written → Type 0
  GetWrites choices overrides g w =
      ((shown : Written) × RulesGive g.rules choices (layers_of g.stage overrides) (request_of (string_bytes machine.current_dir) g) shown
      × (w ≡ told_streams shown))
      ⊎ IsNoKeyIn g.key

  -- what is printed of the command for rustc by these rules; for Cargo's own the overrides are as they are given
  abbrev pub RustcPrints : Rules → List Choice → List (List ℕ) → List ℕ → ℕ → Type 0
  RustcPrints rules.Crate choices overrides text status =
      TaskGives fs machine (asks_rustc (string_bytes machine.current_dir)) choices text status
  RustcPrints rules.Cargo choices overrides text status =
      WhereTold reals (λ real_paths. PrintsCargoRustc fs real_paths machine (string_bytes machine.current_dir) overrides text status)

  -- what a command writes that asks files alone
  abbrev pub CommandGives : List Choice → List (List ℕ) → Command → Written → Type 0
  CommandGives choices overrides (get g) w = GetWrites choices overrides g w
  CommandGives choices overrides (target t) w = Unit {0}
  CommandGives choices overrides (rustc rules) w = TaskWrites (RustcPrints rules choices overrides) w
  CommandGives choices overrides (host rules) w = Unit {0}
  CommandGives choices overrides version w = Unit {0}
  CommandGives choices overrides (lint l) w = Unit {0}

  -- the same under the overrides of the line, unless memory runs out
  abbrev pub LineGives : Line → Written → Type 0
  LineGives line w = CommandGives (choices_for fs machine line) line.configs line.command w ⊎ (w ≡ out_of_memory)

-- what a line writes, in colours or without, whatever files and programs there are
abbrev pub LineAlways : Bool → Line → Written → Type 0
LineAlways is_coloured line w = CommandAlways is_coloured line.command line.quiet w ⊎ (w ≡ out_of_memory)

-- what Cargo's own rules give is also so by all answers with variables that `runs` allows; the crate's rules need none
module _ (fs : Tree) (reals : RealPathMap → Type 0) (answers : Answers) (runs : AnswersWith → Type 0) (machine : Machine) where
  -- what is printed of targets by these rules; for Cargo's own the overrides are as they are given
  abbrev pub RulesPrint : Rules → Targets → List Choice → List (List ℕ) → List ℕ → ℕ → Type 0
  RulesPrint rules.Crate t choices overrides text status =
      PrintsTargets fs answers machine (string_bytes machine.current_dir) choices t.triples t.format text status
  RulesPrint rules.Cargo t choices overrides text status =
      WhereBoth reals runs (λ real_paths own.
      PrintsCargoTargets fs real_paths own machine (string_bytes machine.current_dir) overrides t.triples t.build_scripts t.format text status)

  -- what is printed of the host by these rules
  abbrev pub HostPrints : Rules → List Choice → List (List ℕ) → List ℕ → ℕ → Type 0
  HostPrints rules.Crate choices overrides text status =
      TaskAsksGives fs answers machine (asks_host (string_bytes machine.current_dir)) choices text status
  HostPrints rules.Cargo choices overrides text status =
      WhereBoth reals runs (λ real_paths own. PrintsCargoHost fs real_paths own machine (string_bytes machine.current_dir) overrides text status)

  -- what a command writes that asks programs too
  abbrev pub CommandAsks : List Choice → List (List ℕ) → Command → Written → Type 0
  CommandAsks choices overrides (get g) w = Unit {0}
  CommandAsks choices overrides (target t) w = TaskWrites (RulesPrint t.rules t choices overrides) w
  CommandAsks choices overrides (rustc rules) w = Unit {0}
  CommandAsks choices overrides (host rules) w = TaskWrites (HostPrints rules choices overrides) w
  CommandAsks choices overrides version w =
      TaskWrites (PrintsVersions fs answers machine (string_bytes machine.current_dir) choices) w
  CommandAsks choices overrides (lint l) w = Unit {0}

  -- the same under the overrides of the line, unless memory runs out
  abbrev pub LineAsks : Line → Written → Type 0
  LineAsks line w = CommandAsks (choices_for fs machine line) line.configs line.command w ⊎ (w ≡ out_of_memory)

module _ (fs : Tree) (reals : RealPathMap → Type 0) (runs : AnswersWith → Type 0) (answers : Answers) (is_open : List ℕ → Bool) (machine : Machine)
    (paths : List (List ℕ)) where
  -- what a command writes that looks at who can read files too, which `lint` does at these paths
  abbrev pub CommandFinds : Bool → Command → Bool → Written → Type 0
  CommandFinds is_coloured (get g) quiet w = Unit {0}
  CommandFinds is_coloured (target t) quiet w = Unit {0}
  CommandFinds is_coloured (rustc rules) quiet w = Unit {0}
  CommandFinds is_coloured (host rules) quiet w = Unit {0}
  CommandFinds is_coloured version quiet w = Unit {0}
  CommandFinds is_coloured (lint l) quiet w =
      LintFinds fs answers is_open machine (string_bytes machine.current_dir) paths reals runs is_coloured l quiet w

  -- the same of a line, unless memory runs out
  abbrev pub LineFinds : Bool → Line → Written → Type 0
  LineFinds is_coloured line w = CommandFinds is_coloured line.command line.quiet w ⊎ (w ≡ out_of_memory)
