use Rattle.std.proofs.Common.{◌≡◌, replicate, string_bytes}
use Rattle.cc2_reports.proofs.text.carets.Given as goal

abbrev pub invariant-loop : goal.invariant-loop
invariant-loop l = string_bytes l.carets ≡ replicate l.counter 94
