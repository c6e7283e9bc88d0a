use Rattle.std.proofs.Common.{◌∙◌}
use Rattle.cc2_cli.proofs.Pairs.{less_than_two}
use Rattle.cc2_cli.proofs.choices.are_pairs.Goals as goal

pub returns : goal.returns
returns c = c.is_empty.ensures ∙ less_than_two c.loop-rest.rest.now c.in_default.len_below ∙ c.loop-rest.invariant
