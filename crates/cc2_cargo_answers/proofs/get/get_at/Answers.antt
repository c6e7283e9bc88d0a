use Rattle.std.proofs.Common.{map}
use Rattle.cc2_error.specs.Causes.{refusal_of}
use Rattle.cc2_cli.specs.ShowTasks.{request_view}
use Rattle.cc2_show_answers.specs.ToldAnswers.{written}
use Rattle.cc2_cargo_answers.specs.Layers.{layers_view}
use Rattle.cc2_cargo_answers.proofs.Giving.{of_error, of_settings}
use Rattle.cc2_cargo_answers.proofs.get.get_at.Goals as goal

pub returns-in-Ok : goal.returns-in-Ok
returns-in-Ok g c keyed fs tree reals real =
    of_settings fs reals c.args.machine.now (layers_view c.args.layers) (request_view c.args.request) (map (λ p. p.now) c.args.pieces.now) keyed
    c.in-Ok.settings (written c.shown_of-told.result) (c.in-Ok.ensures fs tree reals real) c.shown_of-told.ensures

pub returns-in-Err : goal.returns-in-Err
returns-in-Err g c keyed fs tree reals real =
    of_error fs reals c.args.machine.now (layers_view c.args.layers) (request_view c.args.request) (map (λ p. p.now) c.args.pieces.now) keyed
    (refusal_of c.in-Err.error) c.refusal_answer.result (c.in-Err.ensures fs tree reals real) c.refusal_answer.ensures
