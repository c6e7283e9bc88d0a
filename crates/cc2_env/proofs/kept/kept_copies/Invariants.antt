use Rattle.std.proofs.Common.{drop}
use Rattle.cc2_env.proofs.Keeping.{IsKeptSoFar}
use Rattle.cc2_env.proofs.kept.kept_copies.Given as goal

abbrev pub invariant-loop-entry : goal.invariant-loop-entry
invariant-loop-entry l = IsKeptSoFar l.env (drop l.entry-index l.env) l.map
