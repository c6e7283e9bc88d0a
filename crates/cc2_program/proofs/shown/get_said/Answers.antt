use Rattle.std.proofs.Common.{inl, sym}
use Rattle.cc2_show_answers.specs.ToldAnswers as shown
use Rattle.cc2_program.proofs.shown.get_said.Goals as goal

pub returns-in-Some-clause-told : goal.returns-in-Some-clause-told
returns-in-Some-clause-told g c fs files =
    inl (shown.written c.in-Some.told, c.in-Some.ensures.told fs files, sym c.of_told.ensures.is)
