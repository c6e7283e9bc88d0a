-- A question of the code, as one of the definitions.
use Rattle.std.specs.Prelude.{map, option_map, string_bytes}
use Rattle.cc2_cli.specs.Choices.{choices_of}
use Rattle.cc2_cli.specs.ShowWords.{Question, Stage, resolved, files, environment, Format, toml, json, json_value, Request, Part, Task, nothing, help, version, show, unknown}
use Rattle.cc2_cli.specs.ShowWords as part
use Rattle.cc2_cli.specs.declared.show.Question.{Question as CodeQuestion}
use Rattle.cc2_cli.specs.declared.show.Request.{Request as CodeRequest}
use Rattle.cc2_cli.specs.declared.show.Stage.{Stage as CodeStage}
use Rattle.cc2_cli.specs.declared.show.Stage.TheVariants as stage
use Rattle.cc2_cli.specs.declared.show.Format.{Format as CodeFormat}
use Rattle.cc2_cli.specs.declared.show.Format.TheVariants as format
use Rattle.cc2_cli.specs.declared.parts.Part.{Part as CodePart}
use Rattle.cc2_cli.specs.declared.parts.Part.TheVariants as code_part
use Rattle.cc2_cli.specs.declared.show.Task.{Task as CodeTask}
use Rattle.cc2_cli.specs.declared.show.Task.TheVariants as code

abbrev pub stage_view : CodeStage → Stage
stage_view stage.Resolved = resolved
stage_view stage.Files = files
stage_view stage.Environment = environment

abbrev pub format_view : CodeFormat → Format
format_view format.Toml = toml
format_view format.Json = json
format_view format.JsonValue = json_value

abbrev pub request_view : CodeRequest → Request
request_view r = record {
  dir = r.dir.now;
  key = option_map (λ key. key.now) r.key;
  stage = stage_view r.stage;
  format = format_view r.format;
  merged = r.merged;
  origins = r.origins;
  tokens = r.tokens;
}

abbrev pub part_view : CodePart → Part
part_view (code_part.Key text) = part.key text.now
part_view (code_part.Stage s) = part.stage (stage_view s)
part_view (code_part.Format f) = part.format (format_view f)
part_view (code_part.Merged b) = part.merged b
part_view code_part.Origins = part.origins
part_view code_part.Tokens = part.tokens

abbrev pub task_view : CodeTask → Task
task_view code.Nothing = nothing
task_view code.Help = help
task_view code.Version = version
task_view (code.Show request) = show (request_view request)
task_view code.Unknown = unknown

abbrev pub question_view : CodeQuestion → Question
question_view q = record { task = task_view q.task; choices = choices_of (map string_bytes q.choices.now) }
