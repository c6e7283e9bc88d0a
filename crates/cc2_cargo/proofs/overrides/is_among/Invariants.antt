use Rattle.std.proofs.Common.{◌≡◌, drop, map, string_bytes}
use Rattle.std.specs.List.{list_any}
use Rattle.cc2_base.specs.Paths.{same_path}
use Rattle.cc2_cargo.proofs.overrides.is_among.Given as goal

-- the path is among those that are left, or among none
abbrev pub invariant-loop-one : goal.invariant-loop-one
invariant-loop-one l =
    list_any (λ p. same_path p l.path) (map string_bytes (drop l.one-index l.seen)) ≡ list_any (λ p. same_path p l.path) (map string_bytes l.seen)
