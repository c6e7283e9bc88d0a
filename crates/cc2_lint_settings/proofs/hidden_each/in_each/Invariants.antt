use Rattle.std.proofs.Common.{◌≡◌, map, take, option_map}
use Rattle.serde_json.specs.View.{view}
use Rattle.cc2_lint_settings.specs.HiddenViews.{hidden_views, table_of}
use Rattle.cc2_lint_settings.specs.Keys.{hidden_in}
use Rattle.cc2_lint_settings.proofs.hidden_each.in_each.Given as goal

-- those of the files that are done
abbrev pub invariant-loop-file : goal.invariant-loop-file
invariant-loop-file l = hidden_views l.all ≡ map (hidden_in (option_map view l.json)) (map table_of (take l.file-index l.linted))
