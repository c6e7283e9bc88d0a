use Rattle.std.proofs.Common.{◌≡◌}
use Rattle.toml.specs.View.{members_view}
use Rattle.cc2_cargo.specs.Dotted.{are_chains}
use Rattle.cc2_cargo.proofs.dotted.+chain.Given as goal

-- all members end a chain where those that are left do
abbrev pub invariant-are_chains-loop-value : goal.invariant-are_chains-loop-value
invariant-are_chains-loop-value l = are_chains (members_view l.value-iterator) ≡ are_chains (members_view l.fn.table.entries)
