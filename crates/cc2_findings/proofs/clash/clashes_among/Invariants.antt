use Rattle.std.proofs.Common.{◌≡◌, ◌++◌, map, flat_map}
use Rattle.cc2_findings.specs.Clashes.{clash_at}
use Rattle.cc2_findings.specs.ClashViews.{clash_view, file_view}
use Rattle.cc2_findings.specs.FindingViews.{finding_view}
use Rattle.cc2_findings.proofs.clash.clashes_among.Given as goal

-- what was put, and then those of the settings that are left
abbrev pub invariant-loop-setting : goal.invariant-loop-setting
invariant-loop-setting l =
    map clash_view l.found.items ++ flat_map (clash_at (map file_view l.nearer)) (map finding_view l.setting-iterator.rest.items)
    ≡ flat_map (clash_at (map file_view l.fn.nearer)) (map finding_view l.fn.settings.items)
