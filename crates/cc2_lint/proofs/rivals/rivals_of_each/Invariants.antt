use Rattle.std.proofs.Common.{drop, map}
use Rattle.cc2_base.specs.Told.{Keeps}
use Rattle.cc2_lint_settings.specs.Views.{table_of}
use Rattle.cc2_rustc.specs.Kept.{WhereBothTold}
use Rattle.cc2_lint.specs.Files.{rivals_view}
use Rattle.cc2_lint.specs.Listed.{IsOfTarget}
use Rattle.cc2_reports.proofs.InTurn.{IsSoFar}
use Rattle.cc2_lint.proofs.rivals.rivals_of_each.Given as goal

-- what programs agree with is kept, and with what the targets that are left give, these are those of all
abbrev pub invariant-loop-text : goal.invariant-loop-text
invariant-loop-text g l = record {
  same : Keeps (g.P.Programs.told l.initial.programs) (g.P.Programs.told l.programs);
  so_far : WhereBothTold (g.F.Files.told l.files) (g.P.Programs.told l.initial.programs) (λ fs answers.
      IsSoFar (IsOfTarget fs answers l.machine l.dir (map table_of l.linted)) (map (λ text. text.now) l.targets)
      (map (λ text. text.now) (drop l.text-index l.targets)) (map rivals_view l.all.items));
}
