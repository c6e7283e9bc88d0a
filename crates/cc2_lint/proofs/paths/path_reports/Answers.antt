use Rattle.std.proofs.Common.{◌≡◌, inl, inr, true, sym, ◌∙◌}
use Rattle.cc2_findings.specs.Dirs.{is_directory}
use Rattle.cc2_reports.proofs.Outcomes.{if_err, if_ok}
use Rattle.cc2_lint.proofs.paths.path_reports.Goals as goal

pub returns-then-branch-clause-ok : goal.returns-then-branch-clause-ok
returns-then-branch-clause-ok g c fs answers is_open files programs permissions =
    let is : is_directory fs c.args.path.now ≡ true = sym (c.in_ok-is_directory.ensures fs files) ∙ c.if-branch.true in
    if_ok c.dir_reports.result _ _ (λ reports h. inl (is, h)) (c.dir_reports.ensures.ok fs answers is_open files programs permissions)

pub returns-then-branch-clause-refused : goal.returns-then-branch-clause-refused
returns-then-branch-clause-refused g c fs answers files programs =
    let is : is_directory fs c.args.path.now ≡ true = sym (c.in_ok-is_directory.ensures fs files) ∙ c.if-branch.true in
    if_err c.dir_reports.result _ _
    (λ e why. elim why [
      | inl memory ↦ inl memory
      | inr cause ↦ inr (is, cause)
    ])
    (c.dir_reports.ensures.refused fs answers files programs)
