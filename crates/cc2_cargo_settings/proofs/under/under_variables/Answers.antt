use Rattle.std.proofs.Common.{map}
use Rattle.cc2_cargo_settings.specs.Changes.{change_of}
use Rattle.cc2_cargo_settings.proofs.Changing.{changes_made}
use Rattle.cc2_cargo_settings.proofs.under.under_variables.Goals as goal

pub returns : goal.returns
returns c =
    changes_made c.args.settings c.args.machine.now (map (λ k. k.now) c.args.asked.now) (map change_of c.in_ok-changes.changes.items)
    c.changed.result c.in_ok-changes.ensures c.changed.ensures.ok c.changed.ensures.refused
