use Rattle.std.proofs.Common.{◌≡◌, inl, inr, true, false, sym, ◌∙◌}
use Rattle.cc2_findings.specs.Dirs.{is_directory}
use Rattle.cc2_reports.proofs.Outcomes.{if_ok}
use Rattle.cc2_compare.proofs.reports.path_reports.Goals as goal

pub returns-then-branch : goal.returns-then-branch
returns-then-branch g c fs files real_paths reals =
    let is : is_directory fs c.args.path.now ≡ true = sym (c.in_ok-is_directory.ensures fs files) ∙ c.if-branch.true in
    if_ok c.dir_reports.result _ _ (λ reports h. inl (is, h)) (c.dir_reports.ensures fs files real_paths reals)

pub returns-else-branch : goal.returns-else-branch
returns-else-branch g c fs files real_paths reals =
    let is : is_directory fs c.args.path.now ≡ false = sym (c.in_ok-is_directory.ensures fs files) ∙ c.if-branch.false in
    inr (is, c.new.ensures.items)
