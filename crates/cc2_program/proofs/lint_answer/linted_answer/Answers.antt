use Rattle.std.proofs.Common.{IfErr, IfOk, subst}
use Rattle.cc2_error.specs.Causes.{refusal_of}
use Rattle.cc2_lint.specs.Answers.{IsWhyNot}
use Rattle.cc2_lint.proofs.Found.{answered_of}
use Rattle.cc2_program.specs.LintAnswers.{AreProblems, AreReportedWith}
use Rattle.cc2_program.proofs.lint_answer.linted_answer.Goals as goal

pub returns-clause-found : goal.returns-clause-found
returns-clause-found g c fs answers is_open files programs permissions =
    let reals = g.L.RealPaths.told c.args.reals.now in
    let runs = g.S.Launcher.told_with c.args.launcher.now in
    let machine = c.args.machine.now in
    let q = c.args.question.now in
    answered_of (AreProblems fs reals runs answers is_open machine q c.args.compares) (IsWhyNot fs answers machine q) q
    c.reports_with-found.result c.answer_for.result
    (λ reports is. subst (λ found. IfOk found (λ reports. AreReportedWith fs reals runs answers is_open machine q c.args.compares reports.items)) is
    (c.reports_with-found.ensures.ok fs answers is_open files programs permissions))
    (λ e is. subst (λ found. IfErr found (λ e. IsWhyNot fs answers machine q (refusal_of e))) is
    (c.reports_with-found.ensures.refused fs answers files programs))
    c.answer_for.ensures
