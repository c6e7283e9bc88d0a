use Rattle.std.proofs.Common.{Bool, [], ◌++◌, map, string_bytes, refl, sym, subst}
use Rattle.std.proofs.lemmas.List.{append-nil}
use Rattle.cc2_lint.specs.Answers.{allowed_of}
use Rattle.cc2_reports.specs.Problems.{problems_of}
use Rattle.cc2_program.specs.LintAnswers.{AreComparedIf}
use Rattle.cc2_reports.proofs.Appended.{appended}
use Rattle.cc2_program.proofs.lint_answer.reports_with.Goals as goal

pub returns-then-not-compares-clause-ok : goal.returns-then-not-compares-clause-ok
returns-then-not-compares-clause-ok g c fs answers is_open files programs permissions =
    let q = c.args.question.now in
    let reals = g.L.RealPaths.told c.args.reals.now in
    let runs = g.S.Launcher.told_with c.args.launcher.now in
    let (found, all, chosen) = c.in_ok-reports.ensures.ok fs answers is_open files programs permissions in
    let none = subst (λ (b : Bool). AreComparedIf b fs reals runs c.args.machine.now (map (λ text. text.now) q.targets.now) q.dir.now (map string_bytes q.paths.now) [])
    (sym c.if-not-compares.true) refl in
    (problems_of found, (found, [], all, none, sym (append-nil (problems_of found))), chosen)

pub returns-clause-chosen : goal.returns-clause-chosen
returns-clause-chosen g c =
    let (found, chosen) = c.in_ok-reports.ensures.chosen in
    let more = problems_of c.in_ok-compared.compared.items in (
      found ++ more,
      appended (allowed_of c.args.question.now) more found (problems_of c.in_ok-reports.reports.items)
          (problems_of c.append_new.new.all.items) chosen c.in_ok-append_new.ensures,
    )

pub returns-clause-ok : goal.returns-clause-ok
returns-clause-ok g c fs answers is_open files programs permissions =
    let q = c.args.question.now in
    let reals = g.L.RealPaths.told c.args.reals.now in
    let runs = g.S.Launcher.told_with c.args.launcher.now in
    let (found, all, chosen) = c.in_ok-reports.ensures.ok fs answers is_open files programs permissions in
    let compared = c.in_ok-compared.compared.items in
    let here = subst (λ (b : Bool). AreComparedIf b fs reals runs c.args.machine.now (map (λ text. text.now) q.targets.now) q.dir.now (map string_bytes q.paths.now) compared)
    (sym c.if-not-compares.false) (c.in_ok-compared.ensures fs files) in (
      problems_of found ++ problems_of compared,
      (found, compared, all, here, refl),
      appended (allowed_of q) (problems_of compared) (problems_of found)
          (problems_of c.in_ok-reports.reports.items) (problems_of c.append_new.new.all.items) chosen c.in_ok-append_new.ensures,
    )
