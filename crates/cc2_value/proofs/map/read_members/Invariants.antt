use Rattle.std.proofs.Common.{◌≡◌, ◌++◌, List}
use Rattle.toml.proofs.Views.{Entry}
use Rattle.cc2_value.specs.Copies.{origin_given}
use Rattle.cc2_value.proofs.Maps.{IsReadSoFar}
use Rattle.cc2_value.proofs.map.read_members.Given as goal

-- the entries done are read, and the others follow them
abbrev pub invariant-loop-name : goal.invariant-loop-name
invariant-loop-name g l =
    (done : List Entry) × (l.fn.table.entries ≡ done ++ l.name-iterator) × IsReadSoFar g.V.MergeFrom.cell_at g.V.Decode.way (origin_given l.definition) done l.members.items
