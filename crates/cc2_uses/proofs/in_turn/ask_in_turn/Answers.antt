use Rattle.cargo_config2.proofs.Left.{left_before, left_on}
use Rattle.cc2_uses.proofs.in_turn.ask_in_turn.Goals as goal

pub loop-question-preserved : goal.loop-question-preserved
loop-question-preserved g c =
    let files = g.F.Files.told c.args.files.now in
    let so_far = c.loop-question.invariant in (
      left_on files (g.P.Programs.told c.args.programs.now) c.args.config.now c.loop-question.config c.ask.new.config so_far.0
          (left_before files (g.P.Programs.told c.args.programs.now) _ c.loop-question.config c.ask.new.config so_far.1 c.ask.ensures.left),
      λ answers. (
        λ told. (c.ask.ensures.same answers).0 ((so_far.1 answers).0 told),
        λ told. (so_far.1 answers).1 ((c.ask.ensures.same answers).1 told),
      ),
    )
