use Rattle.std.proofs.Common.{◌≡◌, ◌++◌, List, [], String, Global}
use Rattle.cc2_json.proofs.Names.{ArePutSoFar}
use Rattle.cc2_json.proofs.into_json.BTreeMapStringIntoJson.into_json.Given as goal

-- the entries that are done are put, and the others follow them
abbrev pub invariant-loop-name : goal.invariant-loop-name
invariant-loop-name g l =
    (done : List (String Global × _)) × (l.fn.self.entries ≡ done ++ l.name-iterator) × ArePutSoFar l.fn.form g.V.MergeFrom.cell_at g.met.V.JsonMember.own done [] l.members.entries
