use Rattle.std.proofs.Common.{◌≡◌, ◌++◌, List}
use Rattle.toml.proofs.Views.{Entry}
use Rattle.cc2_cargo.specs.Raw.{layer_origin}
use Rattle.cc2_cargo.proofs.RawReads.{AreEntriesRead}
use Rattle.cc2_cargo.proofs.raw.read.+read.Given as goal

-- the entries done are read, and the others follow them
abbrev pub invariant-read_table-loop-name : goal.invariant-read_table-loop-name
invariant-read_table-loop-name l =
    (done : List Entry) × (l.fn.table.entries ≡ done ++ l.name-iterator) × AreEntriesRead (layer_origin l.from) done l.members.items
