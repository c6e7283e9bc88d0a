-- What is reported of what is found.
use Rattle.std.proofs.Common.{◌≡◌, inl, inr, List, Result, Ok, Err, Vec, Global, refl, subst}
use Rattle.cc2_error.specs.Causes.{Refusal, refusal_of}
use Rattle.cc2_error.specs.declared.error.Error.{Error}
use Rattle.cc2_lint.specs.Answers.{AreChosen, IsAnswerBy, IsAnswerAbout, allowed_of, printing_of}
use Rattle.cc2_lint.specs.declared.question.Question.{Question}
use Rattle.cc2_reports.specs.Answers.{IsAnswered, IsAnswerFor}
use Rattle.cc2_reports.specs.Problems.{Problem, problems_of}
use Rattle.cc2_reports.specs.Selected.{reported_among}
use Rattle.cc2_reports.specs.declared.answer.Linted.{Linted}
use Rattle.cc2_reports.specs.declared.report.Report.{Report}

-- the answer with what was found, or with the error
pub answered_by : (q : Question) (found : Result (Vec Report Global) Error) (r : Linted)
    → ((reports : Vec Report Global) → found ≡ Ok reports → AreChosen q reports.items)
    → IsAnswerFor (printing_of q) found r → IsAnswerBy (printing_of q) (allowed_of q) r
answered_by q (Ok reports) r are is =
    let known = are reports refl in
    inr (known.0, subst (λ ps. IsAnswered (printing_of q) ps r) known.1 is)
answered_by q (Err e) r are is = inl (refusal_of e, is)

-- the same of problems and refusals that are such
pub answered_of : (Are : List Problem → Type 0) (Is : Refusal → Type 0) (q : Question) (found : Result (Vec Report Global) Error) (r : Linted)
    → ((reports : Vec Report Global) → found ≡ Ok reports
    → (problems : List Problem) × Are problems × (problems_of reports.items ≡ reported_among (allowed_of q) problems))
    → ((e : Error) → found ≡ Err e → Is (refusal_of e))
    → IsAnswerFor (printing_of q) found r → IsAnswerAbout Are Is (printing_of q) (allowed_of q) r
answered_of Are Is q (Ok reports) r are why is =
    let (problems, such, chosen) = are reports refl in
    inr (problems, such, subst (λ ps. IsAnswered (printing_of q) ps r) chosen is)
answered_of Are Is q (Err e) r are why is = inl (refusal_of e, why e refl, is)
