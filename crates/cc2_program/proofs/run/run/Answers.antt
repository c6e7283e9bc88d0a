use Rattle.std.proofs.Common.{inr, map, refl, string_bytes}
use Rattle.cc2_command_line.specs.LineViews.{line_view}
use Rattle.cc2_program.specs.Runs.{LineAlways, LineAsks, LineFinds, LineGives}
use Rattle.cc2_program.specs.SaidViews.{written}
use Rattle.cc2_program.proofs.Ended.{ended}
use Rattle.cc2_program.proofs.run.run.Goals as goal

pub returns-clause-told : goal.returns-clause-told
returns-clause-told g c fs files =
    ended c.write_said.result _ _ _ _
    (LineGives fs (g.L.RealPaths.told c.args.reals.now) c.args.place.now.machine.now (line_view c.args.line.now))
    (written c.said_of-said.result) (c.said_of-said.ensures.told fs files) (inr refl) c.write_said.ensures

pub returns-clause-asks : goal.returns-clause-asks
returns-clause-asks g c fs answers files programs =
    let reals = g.L.RealPaths.told c.args.reals.now in
    let runs = g.P.WithVariables.told_with c.args.programs.now in
    ended c.write_said.result _ _ _ _ (LineAsks fs reals answers runs c.args.place.now.machine.now (line_view c.args.line.now))
    (written c.said_of-said.result) (c.said_of-said.ensures.asks fs answers files programs) (inr refl) c.write_said.ensures

pub returns-clause-always : goal.returns-clause-always
returns-clause-always g c =
    ended c.write_said.result _ _ _ _ (LineAlways c.args.place.now.is_coloured (line_view c.args.line.now))
    (written c.said_of-said.result) c.said_of-said.ensures.always (inr refl) c.write_said.ensures

pub returns-clause-finds : goal.returns-clause-finds
returns-clause-finds g c fs answers is_open files programs permissions =
    let place = c.args.place.now in
    ended c.write_said.result _ _ _ _
    (LineFinds fs (g.L.RealPaths.told c.args.reals.now) (g.S.Launcher.told_with c.args.launcher.now) answers is_open place.machine.now (map string_bytes place.paths.now) place.is_coloured (line_view c.args.line.now))
    (written c.said_of-said.result) (c.said_of-said.ensures.finds fs answers is_open files programs permissions) (inr refl) c.write_said.ensures
