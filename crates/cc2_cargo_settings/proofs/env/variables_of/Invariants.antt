use Rattle.std.proofs.Common.{◌≡◌, map, string_bytes}
use Rattle.std.specs.Map.{keys_of}
use Rattle.cc2_cargo.specs.Raw.{raw_members_at}
use Rattle.cc2_cargo_settings.specs.EnvVariables.{variable_view, variables_at}
use Rattle.cc2_cargo_settings.proofs.EnvNames.{behind}
use Rattle.cc2_cargo_settings.proofs.env.variables_of.Given as goal

-- the variables so far, and those of the names that are left
abbrev pub invariant-loop-name : goal.invariant-loop-name
invariant-loop-name l =
    variables_at (raw_members_at l.fn.sources.settings.now) l.fn.sources.machine.now l.fn.dir (map string_bytes (keys_of l.fn.entries.entries))
    ≡ behind (map variable_view l.variables.items)
    (variables_at (raw_members_at l.fn.sources.settings.now) l.fn.sources.machine.now l.fn.dir (map string_bytes (keys_of l.name-iterator)))
