use Rattle.std.proofs.Common.{◌≡◌, ◌++◌, List}
use Rattle.cc2_env.specs.Options.{variables_of}
use Rattle.cc2_env.proofs.Keeping.{Entry}
use Rattle.cc2_env.proofs.Registering.{AreRegistriesSoFar}
use Rattle.cc2_env.proofs.registries.apply_registries.Given as goal

-- the registries whose variables were met are set, and the other variables follow
abbrev pub invariant-loop-name : goal.invariant-loop-name
invariant-loop-name l =
    (done : List Entry) × (l.fn.context.env.entries ≡ done ++ l.name-iterator)
    × AreRegistriesSoFar (variables_of l.fn.context) l.fn.registries done l.registries
