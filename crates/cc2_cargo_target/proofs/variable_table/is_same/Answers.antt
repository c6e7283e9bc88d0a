use Rattle.std.proofs.Common.{◌∙◌}
use Rattle.cc2_cargo_target.proofs.Listing.{same-map}
use Rattle.cc2_cargo_target.proofs.variable_table.is_same.Goals as goal

pub returns : goal.returns
returns c = c.eq.ensures ∙ same-map c.args.variables.now c.args.others.now
