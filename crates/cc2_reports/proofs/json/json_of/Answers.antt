use Rattle.std.proofs.Common.{◌∙◌, ◌++◌, ◌∷◌, [], ap}
use Rattle.serde_json.specs.Written.{compact_text, has_float}
use Rattle.cc2_reports.specs.Problems.{problems_of}
use Rattle.cc2_reports.proofs.Plain.{problems_plain}
use Rattle.cc2_reports.proofs.json.json_of.Goals as goal

pub returns : goal.returns
returns c =
    c.in_ok-push.ensures.items ∙ ap (λ text. text ++ 10 ∷ [])
    (c.in_ok-text.ensures.text (ap has_float c.in_ok-json.ensures ∙ problems_plain (problems_of c.args.reports.now))
    ∙ ap compact_text c.in_ok-json.ensures)
