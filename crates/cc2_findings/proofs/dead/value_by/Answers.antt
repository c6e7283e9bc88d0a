use Rattle.std.proofs.Common.{rules, map}
use Rattle.std.proofs.lemmas.Fn.{always_returns_same}
use Rattle.cc2_cfg.proofs.Answering.{answers_always}
use Rattle.cc2_findings.specs.Dead.{known_by, decided_view}
use Rattle.cc2_findings.proofs.dead.value_by.Goals as goal

pub returns : goal.returns
returns c =
    let same = always_returns_same _ _ _ (λ a r f' called. search rules) in
    c.in-Ok.ensures.value (known_by (map decided_view c.args.decided.now)) (answers_always _ _ _ _ same)
