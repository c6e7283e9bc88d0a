use Rattle.std.proofs.Common.{ℕ, Ok, Vec, Global, ap, inl, string_bytes}
use Rattle.std.specs.Result.{result_map_both}
use Rattle.cc2_error.specs.Causes.{refusal_of}
use Rattle.cc2_cli.proofs.Shown.{refused, shown}
use Rattle.cc2_answers.specs.SeveralRuns.{as_it_is}
use Rattle.cc2_program.proofs.versions.answer_by.Goals as goal

pub returns-in-Ok-clause-shows : goal.returns-in-Ok-clause-shows
returns-in-Ok-clause-shows c =
    shown as_it_is (string_bytes c.in-Ok.lines) (result_map_both string_bytes refusal_of c.args.lines) (Ok c.into_bytes.result) c.answer_of.result
    (ap (result_map_both string_bytes refusal_of) c.in-Ok.is) (ap (λ (v : Vec ℕ Global). v.items) c.into_bytes.ensures.value) c.answer_of.ensures

pub returns-in-Err-clause-shows : goal.returns-in-Err-clause-shows
returns-in-Err-clause-shows c =
    refused as_it_is (result_map_both string_bytes refusal_of c.args.lines) (refusal_of c.in-Err.error) c.refusal_answer.result
    (inl (ap (result_map_both string_bytes refusal_of) c.in-Err.is)) c.refusal_answer.ensures
