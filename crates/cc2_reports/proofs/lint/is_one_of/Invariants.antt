use Rattle.std.proofs.Common.{◌≡◌, map, drop}
use Rattle.cc2_reports.specs.Lints.{is_named, name_of}
use Rattle.cc2_reports.proofs.lint.is_one_of.Given as goal

-- those that are left have the answer
abbrev pub invariant-loop-lint : goal.invariant-loop-lint
invariant-loop-lint l = is_named (map name_of (drop l.lint-index l.lints)) l.word ≡ is_named (map name_of l.fn.lints) l.fn.word
