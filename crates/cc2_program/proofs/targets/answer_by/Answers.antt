use Rattle.std.proofs.Common.{ap, inl}
use Rattle.std.specs.Result.{result_map_both}
use Rattle.serde_json.specs.View.{view}
use Rattle.cc2_error.specs.Causes.{refusal_of}
use Rattle.cc2_cli.proofs.Shown.{refused, shown}
use Rattle.cc2_program.specs.Queries.{settings_text}
use Rattle.cc2_program.proofs.Ended.{found_or_error}
use Rattle.cc2_program.proofs.targets.answer_by.Goals as goal

pub returns-in-Ok-clause-one : goal.returns-in-Ok-clause-one
returns-in-Ok-clause-one c = found_or_error c.text_of.result c.answer_of.result c.answer_of.ensures

pub returns-in-Ok-clause-shows : goal.returns-in-Ok-clause-shows
returns-in-Ok-clause-shows c =
    shown (settings_text c.args.format) (view c.in-Ok.json) (result_map_both view refusal_of c.args.found) c.text_of.result c.answer_of.result
    (ap (result_map_both view refusal_of) c.in-Ok.is) c.text_of.ensures c.answer_of.ensures

pub returns-in-Err-clause-shows : goal.returns-in-Err-clause-shows
returns-in-Err-clause-shows c =
    refused (settings_text c.args.format) (result_map_both view refusal_of c.args.found) (refusal_of c.in-Err.error) c.refusal_answer.result
    (inl (ap (result_map_both view refusal_of) c.in-Err.is)) c.refusal_answer.ensures
