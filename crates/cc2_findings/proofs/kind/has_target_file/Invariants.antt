use Rattle.std.proofs.Common.{◌≡◌, drop}
use Rattle.toml.specs.View.{items_view}
use Rattle.cc2_findings.specs.Kinds.{has_target_file}
use Rattle.cc2_findings.proofs.kind.has_target_file.Given as goal

-- those that are left have the answer
abbrev pub invariant-loop-item : goal.invariant-loop-item
invariant-loop-item l = has_target_file (items_view (drop l.item-index l.items)) ≡ has_target_file (items_view l.fn.items)
