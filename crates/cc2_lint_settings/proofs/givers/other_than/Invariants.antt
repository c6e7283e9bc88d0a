use Rattle.std.proofs.Common.{◌≡◌, drop}
use Rattle.cc2_value.specs.Rows.{texts_of}
use Rattle.cc2_lint_settings.specs.Givers.{other_than}
use Rattle.cc2_lint_settings.proofs.givers.other_than.Given as goal

-- the keys that are left have the answer
abbrev pub invariant-loop-other : goal.invariant-loop-other
invariant-loop-other l = other_than l.key (texts_of (drop l.other-index l.keys)) ≡ other_than l.fn.key (texts_of l.fn.keys)
