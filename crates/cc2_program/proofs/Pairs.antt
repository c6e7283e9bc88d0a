-- The pairs of overrides, and what they choose.
use Rattle.std.proofs.Common.{◌≡◌, ℕ, List, [], ◌∷◌, map, refl, ap}
use Rattle.std.specs.Prelude.{flat_map}
use Rattle.cc2_base.specs.Told.{Tree}
use Rattle.cc2_cli.specs.Choices.{choices_of}
use Rattle.cc2_program.specs.Overrides.{choice_by, pair_by}

pub chosen_by_pairs : (fs : Tree) (dir : List ℕ) (configs : List (List ℕ))
    → choices_of (flat_map (pair_by fs dir) configs) ≡ map (choice_by fs dir) configs
chosen_by_pairs fs dir [] = refl
chosen_by_pairs fs dir (config ∷ configs) = ap (λ cs. choice_by fs dir config ∷ cs) (chosen_by_pairs fs dir configs)
