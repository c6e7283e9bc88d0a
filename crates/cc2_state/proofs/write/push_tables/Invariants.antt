use Rattle.std.proofs.Common.{◌≡◌, ◌++◌, List, String, Global, map}
use Rattle.cc2_ask.specs.Written.{AreAppended}
use Rattle.cc2_target_table.specs.declared.target.TargetConfig.{TargetConfig}
use Rattle.cc2_state.specs.Shown.{saved_entry}
use Rattle.cc2_state.specs.State.{entry_front}
use Rattle.cc2_state.proofs.write.push_tables.Given as goal

-- the entries done are appended, and the others follow them
abbrev pub invariant-loop-key : goal.invariant-loop-key
invariant-loop-key l =
    (done : List (String Global × TargetConfig)) × (l.fn.tables.entries ≡ done ++ l.key-iterator)
    × AreAppended entry_front (map saved_entry done) l.initial.out.items l.out.items
