use Rattle.std.proofs.Common.{map, string_bytes}
use Rattle.cc2_error.specs.Causes.{refusal_of}
use Rattle.cc2_answers.specs.Choices.{overrides_by}
use Rattle.cc2_answers.specs.Items.{items_of}
use Rattle.cc2_answers.proofs.Shown.{prints_no_load, prints_several, ready}
use Rattle.cc2_answers.proofs.several.several_answer.Goals as goal

pub returns-in-Ok : goal.returns-in-Ok
returns-in-Ok g c fs answers files programs =
    let machine = c.args.machine.now in
    let dir = c.args.dir.now in
    let os = overrides_by (map string_bytes c.args.choices.now) in
    let config = c.in-Ok.config in
    let (is, free) = c.in-Ok.ensures fs files in
    prints_several fs answers machine dir os (items_of (map string_bytes c.args.words.now)) config is free c.all_lines-lines.result
    c.answer_by.result (c.all_lines-lines.ensures fs answers files programs (ready fs answers machine dir os config is))
    c.answer_by.ensures

pub returns-in-Err : goal.returns-in-Err
returns-in-Err g c fs answers files programs =
    prints_no_load fs answers c.args.machine.now c.args.dir.now (overrides_by (map string_bytes c.args.choices.now))
    (items_of (map string_bytes c.args.words.now)) (refusal_of c.in-Err.error) c.refusal_answer.result (c.in-Err.ensures fs files)
    c.refusal_answer.ensures
