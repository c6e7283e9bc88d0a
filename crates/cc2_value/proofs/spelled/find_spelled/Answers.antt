use Rattle.cc2_value.proofs.Spells.{none_spelled}
use Rattle.cc2_value.proofs.spelled.find_spelled.Goals as goal

pub returns-clause-none : goal.returns-clause-none
returns-clause-none g c =
    let e = g.E.Spelled in
    rw c.ok.ensures.value (none_spelled e.spelling e.must_line e.values c.args.text.now c.spelled.result
    c.spelled.ensures.refused)
