use Rattle.cargo_config2.proofs.Fresh.{fresh_agrees}
use Rattle.cc2_uses.proofs.twice.asked_twice.Goals as goal

pub returns-clause-same : goal.returns-clause-same
returns-clause-same g c fs answers files programs =
    let loaded = (c.in_ok-config.ensures fs files).0 in
    c.twice_by.ensures.same fs answers files programs
    (fresh_agrees fs answers c.in_ok-config.config loaded.nothing_kept loaded.no_targets)
