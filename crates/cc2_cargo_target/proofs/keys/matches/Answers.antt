use Rattle.std.proofs.Common.{rules}
use Rattle.std.proofs.lemmas.Fn.{always_returns_same}
use Rattle.cc2_cfg.proofs.Answering.{answers_always}
use Rattle.cc2_rustc.specs.Printed.{atoms_of}
use Rattle.cc2_cargo_target.specs.Keys.{is_set}
use Rattle.cc2_cargo_target.proofs.keys.matches.Goals as goal

pub returns : goal.returns
returns c =
    let same = always_returns_same _ _ _ (λ a r f' called. search rules) in
    record {
      by_tree = λ tree is. c.in_ok-key_holds.ensures.value tree (is_set (atoms_of c.args.set.now)) is (answers_always _ _ _ _ same);
      without_tree = λ none. c.in_ok-key_holds.ensures.otherwise none;
    }
