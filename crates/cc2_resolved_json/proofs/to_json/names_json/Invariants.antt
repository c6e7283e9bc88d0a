use Rattle.std.proofs.Common.{◌≡◌, ◌++◌, List, [], String, Global}
use Rattle.cc2_json.proofs.Names.{ArePutSoFar}
use Rattle.cc2_resolved_json.specs.Plain.{plain_at, without_origins}
use Rattle.cc2_resolved_json.proofs.to_json.names_json.Given as goal

-- the entries that are done are put, and the others follow them
abbrev pub invariant-loop-name : goal.invariant-loop-name
invariant-loop-name g l =
    (done : List (String Global × _)) × (l.fn.map.entries ≡ done ++ l.name-iterator)
    × ArePutSoFar (without_origins l.fn.tokens) (λ v. plain_at (g.V.ToJson.member v)) g.met.V.PlainMember.own done [] l.members.entries
