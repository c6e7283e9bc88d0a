use Rattle.std.proofs.Common.{map, option_map}
use Rattle.serde_json.specs.View.{view}
use Rattle.cc2_lint_settings.specs.HiddenViews.{table_of}
use Rattle.cc2_lint_settings.proofs.ByCells.{are_hidden}
use Rattle.cc2_lint_settings.proofs.hidden_each.hidden_in_each.Goals as goal

pub returns : goal.returns
returns c =
    are_hidden c.args.machine.now (option_map view c.in_ok-json.json) (map table_of c.args.linted.now) c.in_each.result c.in_ok-json.ensures c.in_each.ensures
