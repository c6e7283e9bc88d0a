use Rattle.std.proofs.Common.{option_map}
use Rattle.cc2_cli.proofs.Keys.{double_cut, double_escaped, double_never, double_open}
use Rattle.cc2_cli.proofs.key.double_piece.Goals as goal

pub returns-in_default : goal.returns-in_default
returns-in_default c = double_never c.args.inner.now c.in_default.ensures

pub returns-then-not-lacks : goal.returns-then-not-lacks
returns-then-not-lacks c =
    double_escaped c.args.inner.now c.in-Some.piece.now c.in-Some.rest.now c.in-Some.ensures.0 c.in-Some.ensures.1 c.if-not-lacks.ensures

pub returns-in_default-behind_dot : goal.returns-in_default-behind_dot
returns-in_default-behind_dot c =
    double_open c.args.inner.now c.in-Some.piece.now c.in-Some.rest.now c.in-Some.ensures.0 c.in-Some.ensures.1 c.in_default-behind_dot.ensures

pub returns : goal.returns
returns c =
    double_cut c.args.inner.now c.in-Some.piece.now c.in-Some.rest.now c.in-Some.ensures.0 c.in-Some.ensures.1
    (option_map (λ rest. rest.now) c.in-Some-behind_dot.left) c.if-not-lacks.ensures c.in-Some-behind_dot.ensures
