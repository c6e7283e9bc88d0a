use Rattle.std.proofs.Common.{codes, ◌++◌, ap, ◌∙◌}
use Rattle.std.proofs.lemmas.Result.{on_ok_weaker}
use Rattle.cc2_json.specs.TomlLines.{printable}
use Rattle.cc2_json.proofs.TomlPlaces.{three}
use Rattle.cc2_json.proofs.lines.push_variable.Goals as goal

pub returns : goal.returns
returns c =
    on_ok_weaker c.push-2.result
    (λ e. three c.args.out.now.items (codes " # environment variable `") (printable c.args.variable.now) (codes "`")
    c.in_ok-push.ensures
    (c.in_ok-push_visible.ensures ∙ ap (λ z. c.push.new.out.items ++ printable z) c.as_bytes.ensures.value) e)
    c.push-2.ensures
