use Rattle.std.proofs.Common.{◌≡◌, IfOk, ap, map, string_bytes, subst, ◌∙◌}
use Rattle.cc2_reports.specs.Problems.{IsAbout, Subject, subject_at}
use Rattle.cc2_lint.specs.Subjects.{lint_for, whole_keys}
use Rattle.cc2_lint.proofs.at_keys.finding_report.Goals as goal

pub returns-in_default : goal.returns-in_default
returns-in_default c =
    let file = c.args.file.now in
    let kind = c.args.finding.now.kind in
    let keys = map string_bytes c.args.finding.now.path.items in
    let same : map string_bytes c.in_ok-path.path.items ≡ keys = c.in_ok-path.ensures ∙ ap (map string_bytes) c.as_slice.ensures.value in
    subst (λ (s : Subject). IfOk c.known_report.result (IsAbout s))
    (ap (λ keys. subject_at file (lint_for keys kind) (whole_keys keys kind)) same)
    c.known_report.ensures
