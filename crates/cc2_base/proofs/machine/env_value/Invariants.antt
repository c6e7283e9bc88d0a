use Rattle.std.proofs.Common.{◌≡◌, drop, option_map}
use Rattle.cc2_base.specs.Machines.{later_or, last_value}
use Rattle.cc2_base.proofs.machine.env_value.Given as goal

abbrev pub invariant-loop-entry : goal.invariant-loop-entry
invariant-loop-entry l = later_or (last_value (drop l.entry-index l.env) l.name) (option_map (λ value. value.now) l.last) ≡ last_value l.env l.name
