-- The request of `get` in a directory, and what Cargo reads for it.
use Rattle.std.specs.Prelude.{ℕ, List}
use Rattle.cc2_cargo_answers.specs.Layers.{LayersShown, all, files as files_alone}
use Rattle.cc2_command_line.specs.Commands.{Get}
use Rattle.cc2_command_line.specs.declared.choice.Stage.{Stage as ChosenStage}
use Rattle.cc2_command_line.specs.declared.choice.Stage.TheVariants as chosen
use Rattle.cc2_command_line.specs.declared.choice.ValueFormat.{ValueFormat}
use Rattle.cc2_command_line.specs.declared.choice.ValueFormat.TheVariants as of_value
use Rattle.cc2_cli.specs.ShowWords.{Format, toml, json, json_value, Request, Stage, resolved, files, environment}

abbrev pub shown_stage : ChosenStage → Stage
shown_stage chosen.Environment = environment
shown_stage chosen.Files = files
shown_stage chosen.Resolved = resolved

abbrev pub format_of : ValueFormat → Format
format_of of_value.Toml = toml
format_of of_value.Json = json
format_of of_value.JsonValue = json_value

abbrev pub request_of : List ℕ → Get → Request
request_of dir g = record {
  dir = dir;
  key = g.key;
  stage = shown_stage g.stage;
  format = format_of g.format;
  merged = g.merged;
  origins = g.origins;
  tokens = g.tokens;
}

-- the layers that `get` shows by Cargo's rules: the files alone, or the files under the variables and these overrides
abbrev pub layers_of : ChosenStage → List (List ℕ) → LayersShown
layers_of chosen.Files overrides = files_alone
layers_of chosen.Environment overrides = all overrides
layers_of chosen.Resolved overrides = all overrides
