use Rattle.std.proofs.Common.{drop}
use Rattle.cc2_lint.specs.Files.{checked_in}
use Rattle.cc2_lint.specs.Worlds.{WhereSeen}
use Rattle.cc2_lint.proofs.InTurn.{AreSoFar}
use Rattle.cc2_lint.proofs.paths.linted_reports.Given as goal

-- with the reports of the files that are left, these are those of all
abbrev pub invariant-loop-number : goal.invariant-loop-number
invariant-loop-number g l =
    WhereSeen (g.F.Files.told l.files) (g.R.Permissions.told l.permissions) (λ fs is_open.
    AreSoFar (checked_in fs is_open l.check) l.check.linted.now l.number (drop l.number l.check.linted.now) l.all.items)
