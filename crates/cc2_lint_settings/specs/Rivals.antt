-- The keys that hold for a target together and give the same setting, in each file.
-- Cargo Reference, Configuration, `target.<cfg>.linker`.
use Rattle.std.specs.Prelude.{ℕ, List, [], ◌∷◌, ◌++◌, codes, flat_map, Option, None, if◌then◌else◌}
use Rattle.toml.specs.Data.{Members}
use Rattle.cc2_findings.specs.Founds.{where_found}
use Rattle.cc2_findings.specs.Places.{is_among}
use Rattle.cc2_lint_settings.specs.Givers.{givers_of, key_of, other_than}
use Rattle.cc2_lint_settings.specs.declared.rival_setting.Setting.{Setting}
use Rattle.cc2_lint_settings.specs.declared.rival_setting.Setting.TheVariants.{Linker, Runner}

-- the keys that lead to a setting, and the other key that gives it
abbrev pub Rival : Type 0
Rival = List (List ℕ) × List ℕ

abbrev pub path_to : Setting → List ℕ → List (List ℕ)
path_to s key = codes "target" ∷ (key ∷ (key_of s ∷ []))

-- the first other of the keys that hold, where this is one of them
abbrev pub rival_of : List (List ℕ) → List ℕ → Option (List ℕ)
rival_of held key = if is_among held key then other_than key held else None

-- those of these keys that hold beside another
abbrev pub rivals_among : Setting → List (List ℕ) → List (List ℕ) → List Rival
rivals_among s held keys = flat_map (λ key. where_found (path_to s key) (rival_of held key)) keys

-- those of a file
abbrev pub rivals_in : Setting → List (List ℕ) → Members → List Rival
rivals_in s held ms = rivals_among s held (givers_of s ms)

-- those for a linker and those for a runner
abbrev pub rivals_of : List (List ℕ) → List (List ℕ) → Members → List Rival
rivals_of linkers runners ms = rivals_in Linker linkers ms ++ rivals_in Runner runners ms
