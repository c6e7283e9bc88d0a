use Rattle.std.proofs.Common.{◌≡◌, ◌++◌, List}
use Rattle.toml.proofs.Views.{Entry}
use Rattle.cc2_target_table.proofs.TargetReads.{AreFields}
use Rattle.cc2_target_table.proofs.target.read.has_fields_alone.Given as goal

-- the entries done have fields' keys, and the others follow them
abbrev pub invariant-loop-name : goal.invariant-loop-name
invariant-loop-name l = (done : List Entry) × (l.table.entries ≡ done ++ l.name-iterator) × AreFields done
