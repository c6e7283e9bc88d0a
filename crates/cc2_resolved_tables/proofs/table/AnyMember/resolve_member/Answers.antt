use Rattle.cc2_resolved.specs.Sites.{site_of}
use Rattle.cc2_resolved.proofs.Fields.{entry_resolved}
use Rattle.cc2_resolved_tables.proofs.table.AnyMember.resolve_member.Goals as goal

pub returns-in-Ok-clause-ok : goal.returns-in-Ok-clause-ok
returns-in-Ok-clause-ok g c =
    entry_resolved g.T.Resolved.ResolvedTable.rows (site_of c.args.place.now) g.T.ResolveTable.fields
    c.args.self c.in-Ok.resolved c.in-Ok.ensures.0
