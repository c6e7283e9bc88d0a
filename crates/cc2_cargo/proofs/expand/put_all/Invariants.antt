use Rattle.std.proofs.Common.{◌≡◌, ◌++◌, map}
use Rattle.std.specs.Vec.Iter.{into_iter_items}
use Rattle.cc2_cargo.specs.Includes.{include_view}
use Rattle.cc2_cargo.specs.Expanding.{included_in}
use Rattle.cc2_cargo.proofs.expand.put_all.Given as goal

-- those on the stack and those that are left are what they were
abbrev pub invariant-loop-include : goal.invariant-loop-include
invariant-loop-include l =
    map include_view l.next.items ++ map (included_in l.folder) (map include_view (into_iter_items l.include-iterator))
    ≡ map include_view l.fn.next.items ++ map (included_in l.folder) (map include_view l.fn.list.items)
