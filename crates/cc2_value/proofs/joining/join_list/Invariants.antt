use Rattle.std.proofs.Common.{◌≡◌, ◌++◌, List, Option, drop, length}
use Rattle.std.specs.List.{list_any}
use Rattle.std.specs.Option.{is_some}
use Rattle.cc2_value.specs.Gathered.{AreKept}
use Rattle.cc2_value.specs.Shown.{option_at}
use Rattle.cc2_value.proofs.joining.join_list.Given as goal

-- the values passed are kept, and the others are as they were
abbrev pub invariant-loop-value : goal.invariant-loop-value
invariant-loop-value g l =
    (passed : List (Option _)) × (l.place ≡ length passed) × (l.place ≡ l.value-index)
    × (passed ++ drop l.value-index l.value-items ≡ l.fn.list.items)
    × AreKept (option_at g.T.MergeFrom.cell_at) l.is_reversed passed l.gathered × (is_some l.gathered ≡ list_any is_some passed)
