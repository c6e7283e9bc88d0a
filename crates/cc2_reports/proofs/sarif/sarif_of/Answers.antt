use Rattle.std.proofs.Common.{◌≡◌, ◌∙◌, ◌++◌, ◌∷◌, [], ap}
use Rattle.serde_json.specs.View.{view}
use Rattle.serde_json.specs.Written.{compact_text, has_float}
use Rattle.cc2_reports.specs.Lints.{lints}
use Rattle.cc2_reports.specs.Problems.{problems_of}
use Rattle.cc2_reports.specs.Sarif.{results_data, rules_among, sarif_data}
use Rattle.cc2_reports.proofs.Plain.{sarif_plain}
use Rattle.cc2_reports.proofs.sarif.sarif_of.Goals as goal

pub returns : goal.returns
returns c =
    let ps = problems_of c.args.reports.now in
    let is : view c.in_ok-sarif.sarif ≡ sarif_data (results_data ps) (rules_among lints ps) =
    c.in_ok-sarif.ensures ∙ (ap (λ d. sarif_data d (view c.in_ok-rules.rules)) c.in_ok-results.ensures
    ∙ ap (sarif_data (results_data ps)) c.in_ok-rules.ensures) in
    c.in_ok-push.ensures.items ∙ ap (λ text. text ++ 10 ∷ [])
    (c.in_ok-text.ensures.text (ap has_float is ∙ sarif_plain lints ps) ∙ ap compact_text is)
