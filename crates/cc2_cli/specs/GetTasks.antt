-- A question of the code, as one of the definitions.
use Rattle.std.specs.Prelude.{map, string_bytes}
use Rattle.cc2_cli.specs.Choices.{choices_of}
use Rattle.cc2_cli.specs.GetWords.{Question, Task, nothing, build, rustc, host, target, unknown}
use Rattle.cc2_cli.specs.declared.get.Question.{Question as CodeQuestion}
use Rattle.cc2_cli.specs.declared.get.Task.{Task as CodeTask}
use Rattle.cc2_cli.specs.declared.get.Task.TheVariants as code

abbrev pub task_view : CodeTask → Task
task_view code.Nothing = nothing
task_view (code.Build dir) = build dir.now
task_view (code.Rustc dir) = rustc dir.now
task_view (code.Host dir) = host dir.now
task_view (code.Target dir text) = target dir.now text.now
task_view code.Unknown = unknown

abbrev pub question_view : CodeQuestion → Question
question_view q = record { task = task_view q.task; choices = choices_of (map string_bytes q.choices.now) }
