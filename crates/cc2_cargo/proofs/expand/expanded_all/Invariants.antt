use Rattle.std.proofs.Common.{List, map, reverse}
use Rattle.cc2_base.specs.Told.{WhereTold}
use Rattle.cc2_cargo.specs.Expanding.{config_file}
use Rattle.cc2_cargo.specs.Includes.{include_view}
use Rattle.cc2_cargo.specs.Readings.{AreOthersMarked, Reaches, ReadingState, start, state_of}
use Rattle.cc2_cargo.proofs.expand.expanded_all.Given as goal

-- each file that is read after the first is marked; what is read, and what comes next, was reached from the first includes
abbrev pub invariant-files : goal.invariant-files
invariant-files g l = record {
  marked : AreOthersMarked l.marks (map config_file l.read.items);
  reached :
      WhereTold (g.F.Files.told l.files) (λ fs. (us : List ReadingState) × Reaches fs (start (reverse (map include_view l.fn.first.items))) us (state_of l.read l.next));
}
