use Rattle.cc2_target_answers.proofs.cargo_load.load_by_cargo.Goals as goal

pub returns : goal.returns
returns g c fs real_paths files reals = c.load_under.ensures fs files real_paths reals
