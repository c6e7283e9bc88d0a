use Rattle.cargo_config2.specs.Told.{Keeps}
use Rattle.cargo_config2.specs.Left.{IsLeft}
use Rattle.cc2_uses.proofs.in_turn.ask_in_turn.Given as goal

-- what the questions so far leave
abbrev pub invariant-loop-question : goal.invariant-loop-question
invariant-loop-question g l =
    IsLeft (g.F.Files.told l.files) (g.P.Programs.told l.initial.programs) l.initial.config l.config
    × Keeps (g.P.Programs.told l.initial.programs) (g.P.Programs.told l.programs)
