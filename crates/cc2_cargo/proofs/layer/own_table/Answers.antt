use Rattle.std.proofs.Common.{codes, ap, ◌∙◌}
use Rattle.toml.specs.View.{members_view}
use Rattle.cc2_cargo.proofs.Layering.{taken_out}
use Rattle.cc2_cargo.proofs.layer.own_table.Goals as goal

pub returns : goal.returns
returns c = ap members_view c.remove.ensures.entries ∙ taken_out (codes "include") c.args.table.entries
