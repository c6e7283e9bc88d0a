use Rattle.std.proofs.Common.{map, ap, ◌∙◌}
use Rattle.cc2_rustc.specs.Printed.{atoms_of}
use Rattle.cc2_cargo_target.proofs.Matching.{found_more, kept, pushed}
use Rattle.cc2_cargo_target.proofs.keys.matching.Goals as goal
use Rattle.cc2_cargo_target.proofs.keys.matching.Goals.{then-branch+in_ok-push, else-branch}

pub loop-key-preserved : goal.loop-key-preserved
loop-key-preserved c =
    found_more (atoms_of c.args.set.now) c.args.keys.now c.loop-key.key-index _ (map (λ k. k.now) c.loop-key.found.items) _ c.in_ok-matches.field-0
    c.loop-key-test.true c.loop-key.invariant c.in_ok-matches.ensures
    (elim c.if-branch.branch [
      | then-branch+in_ok-push w ↦ pushed c.loop-key.found.items _ _ _ w.if-branch.true (ap (λ v. v.items) w.found-is ∙ w.in_ok-push.ensures.items)
      | else-branch w ↦ kept c.loop-key.found.items _ _ _ w.if-branch.false (ap (λ v. v.items) w.found-is)
    ])
