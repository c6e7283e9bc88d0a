use Rattle.std.proofs.Common.{◌≡◌, drop, map, string_bytes}
use Rattle.cc2_findings.specs.ClashViews.{clash_view}
use Rattle.cc2_lint.specs.Accepted.{is_replaced}
use Rattle.cc2_lint.proofs.accepted.is_replaced.Given as goal

abbrev pub invariant-loop-clash : goal.invariant-loop-clash
invariant-loop-clash l =
    is_replaced (map string_bytes l.path) (map clash_view (drop l.clash-index l.clashes))
    ≡ is_replaced (map string_bytes l.path) (map clash_view l.clashes)
