-- What the code reads of a request's words, as the definition has it.
use Rattle.std.specs.Prelude.{map, string_bytes}
use Rattle.cc2_cli.specs.GetTasks as get_task
use Rattle.cc2_cli.specs.ShowTasks as show_task
use Rattle.cc2_reply.specs.Asked.{Asked, get, show, several, load}
use Rattle.cc2_reply.specs.declared.question.Question.{Question}
use Rattle.cc2_reply.specs.declared.question.Question.TheVariants as code

abbrev pub asked_view : Question → Asked
asked_view (code.Get question) = get (get_task.question_view question)
asked_view (code.Show question) = show (show_task.question_view question)
asked_view (code.Several dir words) = several dir.now (map string_bytes words.now)
asked_view (code.Load dir words) = load dir.now (map string_bytes words.now)
