use Rattle.std.proofs.Common.{◌≡◌, map, take}
use Rattle.cc2_reports.specs.Lints.{name_of}
use Rattle.cc2_program.proofs.lint.names_of.Given as goal

abbrev pub invariant-loop-lint : goal.invariant-loop-lint
invariant-loop-lint l = map (λ name. name.now) l.names.items ≡ map name_of (take l.lint-index l.lints)
