use Rattle.cc2_answers.proofs.Alone.{all_chosen}
use Rattle.cc2_answers.proofs.chosen.options_by.Goals as goal

pub returns-clause-ok : goal.returns-clause-ok
returns-clause-ok c =
    all_chosen _ c.loop-rest.options c.loop-rest.rest.now c.in_default.len_below c.loop-rest.invariant.alone
    c.loop-rest.invariant.so_far
