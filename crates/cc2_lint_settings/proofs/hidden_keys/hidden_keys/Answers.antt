use Rattle.std.proofs.Common.{map, sym, ap, ◌∙◌}
use Rattle.serde_json.specs.View.{view}
use Rattle.toml.specs.View.{table_view}
use Rattle.cc2_json.specs.Json.{is_bare_object}
use Rattle.cc2_json.proofs.Trees.{members_none}
use Rattle.cc2_lint_settings.specs.HiddenViews.{hidden_view}
use Rattle.cc2_lint_settings.proofs.Bare.{bare_hides}
use Rattle.cc2_lint_settings.proofs.hidden_keys.hidden_keys.Goals as goal

pub returns-in-Some : goal.returns-in-Some
returns-in-Some c =
    let none = sym (members_none c.in-Some.members.now.entries c.is_empty.result c.is_empty.ensures) ∙ c.if-is_empty.true in
    ap (map hidden_view) c.new.ensures.items
    ∙ bare_hides (view c.args.json.now) (table_view c.args.table.now) (ap is_bare_object (sym c.in-Some.ensures) ∙ none)
