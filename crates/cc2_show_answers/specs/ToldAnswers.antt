-- What an answer writes, and where.
use Rattle.std.specs.Prelude.{[]}
use Rattle.cc2_cli.specs.Answers.{answer_text}
use Rattle.cc2_show_answers.specs.ToldRuns.{Written}
use Rattle.cc2_show_answers.specs.declared.told.Told.{Told}
use Rattle.cc2_show_answers.specs.declared.told.Told.TheVariants as told

abbrev pub written : Told → Written
written (told.Shown answer) = record { out = answer_text answer; err = []; status = answer.status }
written (told.Unset line) = record { out = []; err = line.items; status = 1 }
