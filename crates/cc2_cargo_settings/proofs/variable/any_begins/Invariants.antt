use Rattle.std.proofs.Common.{◌≡◌, drop}
use Rattle.std.specs.List.{list_any}
use Rattle.cc2_cargo_settings.specs.Variables.{begins}
use Rattle.cc2_cargo_settings.proofs.variable.any_begins.Given as goal

-- one of them begins so where one of those left does
abbrev pub invariant-loop-entry : goal.invariant-loop-entry
invariant-loop-entry l = list_any (begins l.front) l.env ≡ list_any (begins l.front) (drop l.entry-index l.env)
