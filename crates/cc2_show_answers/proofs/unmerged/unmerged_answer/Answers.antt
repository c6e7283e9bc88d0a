use Rattle.std.proofs.Common.{map, string_bytes}
use Rattle.cc2_error.specs.Causes.{refusal_of}
use Rattle.cc2_answers.specs.Choices.{overrides_by}
use Rattle.cc2_cli.specs.ShowTasks.{request_view}
use Rattle.cc2_show_answers.proofs.Blocks.{of_refusal}
use Rattle.cc2_show_answers.proofs.unmerged.unmerged_answer.Goals as goal

pub returns-in-Err : goal.returns-in-Err
returns-in-Err g c fs told =
    of_refusal fs c.args.machine.now (overrides_by (map string_bytes c.args.choices.now)) (request_view c.args.request) (map (λ p. p.now) c.args.pieces.now)
    (refusal_of c.in-Err.error) c.refusal_answer.result (c.in-Err.ensures.refused fs told) c.refusal_answer.ensures
