-- What a run writes, by what it composed.
use Rattle.std.specs.Prelude.{[]}
use Rattle.cc2_cli.specs.Answers.{answer_text}
use Rattle.cc2_program.specs.Streams.{failed, printed}
use Rattle.cc2_program.specs.declared.said.Said.{Said}
use Rattle.cc2_program.specs.declared.said.Said.TheVariants as said
use Rattle.cc2_show_answers.specs.ToldRuns.{Written}

abbrev pub written : Said → Written
written (said.Text text) = printed text.now
written (said.Answer answer) = record { out = answer_text answer; err = []; status = answer.status }
written (said.Error answer) = failed (answer_text answer) answer.status
written (said.Line line status) = failed line.items status
written (said.Findings answer summary) = record { out = answer_text answer; err = summary.items; status = answer.status }
