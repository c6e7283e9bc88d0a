use Rattle.std.proofs.Common.{◌≡◌, drop, map, string_bytes}
use Rattle.cc2_error.specs.Commands.{command_of, with_args}
use Rattle.cc2_cargo_target.proofs.settle.cfg_command.Given as goal

-- the flags so far are added, and those left follow
abbrev pub invariant-loop-flag : goal.invariant-loop-flag
invariant-loop-flag l =
    with_args (command_of l.command) (map string_bytes (drop l.flag-index l.flags.flags.items))
    ≡ with_args (command_of l.fn.rustc) (map string_bytes l.flags.flags.items)
