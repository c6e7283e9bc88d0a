use Rattle.std.proofs.Common.{option_map}
use Rattle.cc2_cli.proofs.Keys.{single_cut, single_never, single_open}
use Rattle.cc2_cli.proofs.key.single_piece.Goals as goal

pub returns-in_default : goal.returns-in_default
returns-in_default c = single_never c.args.inner.now c.in_default.ensures

pub returns-in_default-behind_dot : goal.returns-in_default-behind_dot
returns-in_default-behind_dot c =
    single_open c.args.inner.now c.in-Some.piece.now c.in-Some.rest.now c.in-Some.ensures.0 c.in-Some.ensures.1 c.in_default-behind_dot.ensures

pub returns : goal.returns
returns c =
    single_cut c.args.inner.now c.in-Some.piece.now c.in-Some.rest.now c.in-Some.ensures.0 c.in-Some.ensures.1
    (option_map (λ rest. rest.now) c.in-Some-behind_dot.left) c.in-Some-behind_dot.ensures
