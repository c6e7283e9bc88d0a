use Rattle.std.proofs.Common.{rules}
use Rattle.std.proofs.lemmas.Fn.{always_returns_same}
use Rattle.cc2_cfg.proofs.Answering.{answers_always}
use Rattle.cc2_rustc.specs.Holds.{holds}
use Rattle.cc2_rustc.specs.Printed.{atoms_of}
use Rattle.cc2_rustc.proofs.key.value_by.Goals as goal

pub returns-clause-value : goal.returns-clause-value
returns-clause-value c =
    let same = always_returns_same _ _ _ (λ a r f' called. search rules) in
    c.in-Ok.ensures.value (holds (atoms_of c.args.set.now)) (answers_always _ _ _ _ same)
