use Rattle.std.proofs.Common.{◌≡◌, ◌++◌, List}
use Rattle.cc2_env.proofs.Keeping.{Entry}
use Rattle.cc2_env.proofs.Naming.{IsNamedSoFar}
use Rattle.cc2_env.proofs.maps.read_names.Given as goal

-- what the variables so far say is set, and the others follow them
abbrev pub invariant-loop-name : goal.invariant-loop-name
invariant-loop-name g l =
    (done : List Entry) × (l.fn.context.env.entries ≡ done ++ l.name-iterator)
    × IsNamedSoFar g.T.MergeFrom.cell_at g.T.ReadEnv.text_way l.fn.prefix l.fn.map done l.map
