use Rattle.std.proofs.Common.{◌≡◌}
use Rattle.toml.specs.View.{members_view}
use Rattle.cc2_cargo.specs.Dotted.{one_holds_secret}
use Rattle.cc2_cargo.proofs.dotted.one_holds_secret.Given as goal

-- a registry among those that are left has a secret, or none has
abbrev pub invariant-loop-registry : goal.invariant-loop-registry
invariant-loop-registry l = one_holds_secret (members_view l.registry-iterator) ≡ one_holds_secret (members_view l.fn.table.entries)
