use Rattle.std.proofs.Common.{length}
use Rattle.cc2_lint_settings.proofs.unresolved_program.+refusal_behind.Given as goal

-- the keys that are left
abbrev pub decreases-refusal_behind : goal.decreases-refusal_behind
decreases-refusal_behind l = length l.path.now
