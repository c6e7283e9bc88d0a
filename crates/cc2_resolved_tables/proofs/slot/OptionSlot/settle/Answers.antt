use Rattle.std.proofs.Common.{None, Some, rules}
use Rattle.cc2_resolved.specs.Sites.{site_of}
use Rattle.cc2_resolved.proofs.Fields.{setting_resolved}
use Rattle.cc2_resolved_tables.proofs.slot.OptionSlot.settle.Goals as goal

pub returns-in-None-clause-ok : goal.returns-in-None-clause-ok
returns-in-None-clause-ok g c =
    setting_resolved g.T.Resolve.how (site_of c.args.place.now) g.T.Resolve.cell c.args.self.now None (search rules)

pub returns-in-Ok-clause-ok : goal.returns-in-Ok-clause-ok
returns-in-Ok-clause-ok g c =
    setting_resolved g.T.Resolve.how (site_of c.args.place.now) g.T.Resolve.cell c.args.self.now
    (Some (g.T.Resolve.answer c.in-Ok.answer)) (search rules)
