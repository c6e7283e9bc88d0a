use Rattle.std.proofs.Common.{subst}
use Rattle.cc2_value.specs.Shown.{map_at}
use Rattle.cc2_resolved.specs.Sites.{site_of}
use Rattle.cc2_resolved.specs.Rows.{by_name, IsCause}
use Rattle.cc2_resolved_tables.proofs.member.BTreeMapStringSlot.settle.Goals as goal

pub returns-in-Err-clause-refused : goal.returns-in-Err-clause-refused
returns-in-Err-clause-refused g c =
    subst (λ m. IsCause (by_name g.V.Member.how) (site_of c.args.place.now) (map_at g.V.Member.look m) c.in-Err.error)
    c.replace-map.ensures.value c.in-Err.ensures.refused
