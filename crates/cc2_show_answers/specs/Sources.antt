-- A source of settings: what it has by itself, and why it is refused.
use Rattle.std.specs.Prelude.{◌≡◌, ◌⊎◌, ℕ, List, [], ◌∷◌, ◌++◌, codes, Option}
use Rattle.cc2_error.specs.Causes.{Refusal}
use Rattle.cc2_base.specs.Told.{Tree}
use Rattle.cc2_base.specs.declared.machine.Machine.{Machine}
use Rattle.cc2_value.specs.Cells.{Cell, KeyPath}
use Rattle.cc2_env.specs.CommandLine.{Override}
use Rattle.cc2_env.specs.declared.options.ResolveOptions.{ResolveOptions}
use Rattle.cc2_de.specs.ConfigFile.{IsConfig, IsFileCause, file_at}
use Rattle.cc2_answers.specs.Choices.{ChoosesAlone}
use Rattle.cc2_de.specs.OverridesAlone.{IsOptionCause, IsSetOver}
use Rattle.cc2_de.specs.VariablesAlone.{IsSetBy, IsVariableCause}
use Rattle.cc2_cli.specs.ShowWords.{Stage, resolved, files, environment}
use Rattle.cc2_json.specs.TomlLines.{printable}
use Rattle.cc2_show_answers.specs.declared.source.Source.{Source as CodeSource}
use Rattle.cc2_show_answers.specs.declared.source.Source.TheVariants as code

pub data Source : Type 0 where
  command_line : Source
  variables : Source
  -- the file at a path
  file : List ℕ → Source

-- those above the files
abbrev pub set_above : List Source
set_above = command_line ∷ variables ∷ []

-- those above the files of this stage
abbrev pub above : Stage → List Source
above files = []
above resolved = set_above
above environment = set_above

-- the comment that names a source
abbrev pub headline : Source → List ℕ
headline command_line = codes "# --config cli option\n"
headline variables = codes "# environment variables\n"
headline (file path) = codes "# " ++ (printable path ++ 10 ∷ [])

module _ (fs : Tree) (machine : Machine) (dir : List ℕ) (os : List Override) where
  -- m is what a source has by itself
  abbrev pub IsSourceMap : Source → (KeyPath → Option Cell) → Type 0
  IsSourceMap command_line m = IsSetOver fs dir os m
  IsSourceMap variables m = IsSetBy machine m
  IsSourceMap (file path) m = IsConfig fs path × ((p : KeyPath) → m p ≡ file_at fs path p)

  -- why a source is refused
  abbrev pub IsSourceCause : Source → Refusal → Type 0
  IsSourceCause command_line refusal = (options : ResolveOptions) × ChoosesAlone os options × IsOptionCause fs machine dir options refusal
  IsSourceCause variables refusal = IsVariableCause machine refusal
  IsSourceCause (file path) refusal = IsFileCause fs path refusal

  -- one of these is
  abbrev pub IsCauseAmong : List Source → Refusal → Type 0
  IsCauseAmong [] refusal = ⊥
  IsCauseAmong (source ∷ sources) refusal = IsSourceCause source refusal ⊎ IsCauseAmong sources refusal

-- a source of the code
abbrev pub source_view : CodeSource → Source
source_view code.CommandLine = command_line
source_view code.Variables = variables
source_view (code.File path) = file path.now
