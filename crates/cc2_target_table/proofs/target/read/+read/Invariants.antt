use Rattle.std.proofs.Common.{◌≡◌, ◌++◌, List}
use Rattle.toml.proofs.Views.{Entry}
use Rattle.cc2_value.specs.Copies.{origin_given}
use Rattle.cc2_target_table.proofs.TargetReads.{IsReadSoFar, IsOwnSoFar}
use Rattle.cc2_target_table.proofs.target.read.+read.Given as goal

-- the maps have what the entries done have, below names and at fields, and the others follow them
abbrev pub invariant-read_nested-loop-name : goal.invariant-read_nested-loop-name
invariant-read_nested-loop-name l =
    (done : List Entry) × (l.fn.table.entries ≡ done ++ l.name-iterator)
    × IsReadSoFar (origin_given l.definition) done l.nested × IsOwnSoFar done l.own
