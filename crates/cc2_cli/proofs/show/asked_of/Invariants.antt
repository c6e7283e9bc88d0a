use Rattle.std.proofs.Common.{◌≡◌, map, string_bytes, length}
use Rattle.cc2_cli.specs.ShowFound.{as_found}
use Rattle.cc2_cli.specs.ShowWords.{question_in, parted}
use Rattle.cc2_cli.proofs.ShowFound.{asked_behind}
use Rattle.cc2_cli.proofs.show.asked_of.Given as goal

abbrev pub invariant-loop-part : goal.invariant-loop-part
invariant-loop-part l =
    asked_behind l.dir (as_found l.found) (map string_bytes l.rest)
    ≡ question_in l.fn.dir (parted (map string_bytes l.fn.words)).0 (parted (map string_bytes l.fn.words)).1

abbrev pub decreases-loop-part : goal.decreases-loop-part
decreases-loop-part l = length l.rest
