use Rattle.cc2_show_answers.proofs.told.load_unresolved.Goals as goal

pub returns-in-Ok : goal.returns-in-Ok
returns-in-Ok g c fs told = c.in-Ok.ensures fs told

pub returns-in-Err : goal.returns-in-Err
returns-in-Err g c fs told = c.in-Err.ensures fs told
