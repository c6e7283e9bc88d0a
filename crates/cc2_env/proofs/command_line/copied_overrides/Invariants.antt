use Rattle.std.proofs.Common.{◌≡◌, map, take}
use Rattle.cc2_env.specs.CommandLine.{override_of}
use Rattle.cc2_env.proofs.command_line.copied_overrides.Given as goal

abbrev pub invariant-loop-one : goal.invariant-loop-one
invariant-loop-one l = map override_of l.copies.items ≡ map override_of (take l.one-index l.overrides)
