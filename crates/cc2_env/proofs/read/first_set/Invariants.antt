use Rattle.std.proofs.Common.{◌≡◌, map, drop}
use Rattle.cc2_env.specs.Options.{variables_of}
use Rattle.cc2_env.specs.Reads.{first_value}
use Rattle.cc2_env.proofs.read.first_set.Given as goal

-- none of the names so far is set
abbrev pub invariant-loop-name : goal.invariant-loop-name
invariant-loop-name l =
    first_value (variables_of l.context) (map (λ name. name.now) (drop l.name-index l.names)) ≡ first_value
    (variables_of l.context) (map (λ name. name.now) l.names)
