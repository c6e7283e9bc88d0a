use Rattle.cc2_de.proofs.ConfigLists.{none_there}
use Rattle.cc2_de.proofs.config.merge_list.Goals as goal

pub returns-in-Ok-Some-clause-ok : goal.returns-in-Ok-Some-clause-ok
returns-in-Ok-Some-clause-ok c =
    let w = c.in-Ok-Some in
    rw w.field-0-is at w.ensures.ok

pub returns-in-Ok-None-clause-ok : goal.returns-in-Ok-None-clause-ok
returns-in-Ok-None-clause-ok c =
    let w = c.in-Ok-None in
    none_there c.args.list.now.items c.empty.result (rw w.field-0-is at w.ensures.ok) c.empty.ensures
