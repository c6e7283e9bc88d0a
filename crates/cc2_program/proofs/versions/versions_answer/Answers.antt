use Rattle.std.proofs.Common.{ℕ, List, map, string_bytes, subst}
use Rattle.cc2_error.specs.Causes.{refusal_of}
use Rattle.cc2_cli.specs.Answers.{answer_text}
use Rattle.cc2_cli.specs.Choices.{choices_of}
use Rattle.cc2_answers.specs.Choices.{override_of}
use Rattle.cc2_answers.specs.SeveralRuns.{as_it_is}
use Rattle.cc2_answers.proofs.Shown.{ready}
use Rattle.cc2_program.specs.Queries.{IsVersionsOutcome, PrintsVersions}
use Rattle.cc2_program.proofs.Loaded.{prints_found, prints_unloaded}
use Rattle.cc2_program.proofs.versions.versions_answer.Goals as goal

pub returns-in-Ok-clause-told : goal.returns-in-Ok-clause-told
returns-in-Ok-clause-told g c fs answers files programs =
    let machine = c.args.machine.now in
    let dir = c.as_str-dir.result.now in
    let choices = choices_of (map string_bytes c.args.choices.now) in
    let config = c.in-Ok.config in
    let answer = c.answer_by.result in
    let (is, free) = c.in-Ok.ensures fs files in
    subst (λ (d : List ℕ). PrintsVersions fs answers machine d choices (answer_text answer) answer.status) c.as_str-dir.ensures.value
    (prints_found as_it_is (IsVersionsOutcome fs answers) fs machine dir choices string_bytes config is free c.version_lines-lines.result answer
    (c.version_lines-lines.ensures fs answers files programs (ready fs answers machine dir (map override_of choices) config is))
    c.answer_by.ensures.shows)

pub returns-in-Err-clause-told : goal.returns-in-Err-clause-told
returns-in-Err-clause-told g c fs answers files programs =
    let machine = c.args.machine.now in
    let choices = choices_of (map string_bytes c.args.choices.now) in
    let answer = c.refusal_answer.result in
    subst (λ (d : List ℕ). PrintsVersions fs answers machine d choices (answer_text answer) answer.status) c.as_str-dir.ensures.value
    (prints_unloaded as_it_is (IsVersionsOutcome fs answers) fs machine c.as_str-dir.result.now choices (refusal_of c.in-Err.error) answer
    (c.in-Err.ensures fs files) c.refusal_answer.ensures)
