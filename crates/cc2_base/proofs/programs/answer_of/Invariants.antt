use Rattle.std.proofs.Common.{◌≡◌, map, string_bytes, drop}
use Rattle.cc2_base.specs.ToldPrograms.{answer_in}
use Rattle.cc2_base.proofs.programs.answer_of.Given as goal

abbrev pub invariant-loop-entry : goal.invariant-loop-entry
invariant-loop-entry l = answer_in (drop l.entry-index l.entries) l.program (map string_bytes l.args) ≡ answer_in l.entries l.program (map string_bytes l.args)
