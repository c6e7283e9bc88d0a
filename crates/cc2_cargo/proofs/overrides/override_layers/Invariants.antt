use Rattle.std.proofs.Common.{◌≡◌, ◌++◌, ℕ, List, drop, map, string_bytes}
use Rattle.cc2_base.specs.Told.{WhereTold}
use Rattle.cc2_cargo.specs.Overrides.{ReadsOverrides, none_read, read_of}
use Rattle.cc2_cargo.proofs.overrides.override_layers.Given as goal

-- the overrides done are read, and the others follow them
abbrev pub invariant-loop-text : goal.invariant-loop-text
invariant-loop-text g l =
    (done : List (List ℕ)) × (map string_bytes l.overrides ≡ done ++ map string_bytes (drop l.text-index l.overrides))
    × WhereTold (g.F.Files.told l.files) (λ fs. ReadsOverrides fs l.dir done none_read (read_of l.read))
