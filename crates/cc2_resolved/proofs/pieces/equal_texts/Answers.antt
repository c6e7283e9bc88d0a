use Rattle.std.proofs.Common.{arith}
use Rattle.std.proofs.lemmas.Grind.{common_steps}
use Rattle.cc2_error.proofs.Commands.{pointwise-map}
use Rattle.cc2_base.proofs.Parents.{same_texts-Decides}
use Rattle.cc2_resolved.specs.Texts.{texts_of}
use Rattle.cc2_resolved.proofs.pieces.equal_texts.Goals as goal

pub returns-clause-computed : goal.returns-clause-computed
returns-clause-computed c = let e = pointwise-map c.args.texts.now c.args.others.now in grind (arith, common_steps)

pub returns-clause-same : goal.returns-clause-same
returns-clause-same c =
    let e = pointwise-map c.args.texts.now c.args.others.now in
    let d = same_texts-Decides (texts_of c.args.texts.now) (texts_of c.args.others.now) in
    grind (arith, common_steps)
