use Rattle.cc2_error.specs.Causes.{refusal_of}
use Rattle.cc2_cli.proofs.Shown.{refuses}
use Rattle.cc2_cli.proofs.answer.refusal_answer.Goals as goal

pub returns : goal.returns
returns c =
    refuses (refusal_of c.args.error.now) c.error_lines.result c.answer_of.result c.error_lines.ensures
    c.answer_of.ensures
