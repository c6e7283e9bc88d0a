use Rattle.std.proofs.Common.{codes, ◌++◌, ap, sym, ◌∙◌}
use Rattle.std.specs.Prelude.{option_map}
use Rattle.std.proofs.lemmas.Result.{on_ok_weaker}
use Rattle.serde_json.specs.View.{view}
use Rattle.cc2_json.specs.TomlLines.{comment, leaf_text}
use Rattle.cc2_json.proofs.TomlPlaces.{two}
use Rattle.cc2_json.proofs.lines.push_leaf.Goals as goal

pub returns-in_ok-push-in-None : goal.returns-in_ok-push-in-None
returns-in_ok-push-in-None c =
    let origin = option_map (λ d. view d.now) c.args.origin in
    on_ok_weaker c.push_comment-in-None.result
    (λ e k. two c.args.out.now.items (codes "\"[REDACTED]\"") (comment origin) c.in_ok-push-in-None.ensures e
    ∙ ap (λ v. c.args.out.now.items ++ leaf_text (option_map (λ d. view d.now) v) origin) (sym c.in-None.is))
    c.push_comment-in-None.ensures
