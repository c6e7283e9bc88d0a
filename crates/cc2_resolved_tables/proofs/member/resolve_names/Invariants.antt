use Rattle.std.proofs.Common.{◌≡◌, ◌++◌, List, String, Global}
use Rattle.cc2_resolved.specs.Sites.{site_of}
use Rattle.cc2_resolved.proofs.ByName.{IsMember}
use Rattle.cc2_resolved_tables.proofs.AtOnce.{AreMade}
use Rattle.cc2_resolved_tables.proofs.member.resolve_names.Given as goal

-- the entries done are resolved, and the others follow them
abbrev pub invariant-loop-key : goal.invariant-loop-key
invariant-loop-key g l =
    (done : List (String Global × _)) × (l.fn.map.entries ≡ done ++ l.key-iterator) × AreMade (IsMember g.V.Member.how (site_of l.place) g.V.Member.look g.V.Member.shown) done l.members.items
