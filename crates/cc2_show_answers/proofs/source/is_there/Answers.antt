use Rattle.std.proofs.Common.{◌∙◌, not, ap}
use Rattle.cc2_json.specs.Json.{is_bare_object}
use Rattle.cc2_json.proofs.Trees.{members_none}
use Rattle.cc2_show_answers.proofs.source.is_there.Goals as goal

pub returns-in-Some : goal.returns-in-Some
returns-in-Some c =
    ap not (members_none c.in-Some.members.now.entries c.is_empty.result c.is_empty.ensures ∙ ap is_bare_object c.in-Some.ensures)
