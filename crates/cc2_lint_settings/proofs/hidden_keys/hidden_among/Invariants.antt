use Rattle.std.proofs.Common.{◌≡◌, ◌++◌, map, flat_map}
use Rattle.serde_json.specs.View.{view}
use Rattle.cc2_findings.specs.FindingViews.{finding_view}
use Rattle.cc2_lint_settings.specs.HiddenViews.{hidden_view}
use Rattle.cc2_lint_settings.specs.Keys.{hidden_at}
use Rattle.cc2_lint_settings.proofs.hidden_keys.hidden_among.Given as goal

-- what was put, and then those of the settings that are left
abbrev pub invariant-loop-setting : goal.invariant-loop-setting
invariant-loop-setting l =
    map hidden_view l.found.items ++ flat_map (hidden_at (view l.json)) (map finding_view l.setting-iterator.rest.items)
    ≡ flat_map (hidden_at (view l.fn.json)) (map finding_view l.fn.settings.items)
