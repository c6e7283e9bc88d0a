-- Configurations that were read of overrides.
use Rattle.std.specs.Prelude.{ℕ, List, [], ◌∷◌}
use Rattle.cc2_base.specs.Told.{Tree}
use Rattle.cc2_env.specs.CommandLine.{Override}
use Rattle.cc2_de.specs.declared.config.Config.{Config}
use Rattle.cc2_de.specs.Overrides.{IsOfOverride}

-- each of them shows its override
abbrev pub AreOfOverrides : Tree → List ℕ → List Override → List Config → Type 0
AreOfOverrides fs dir [] [] = Unit {0}
AreOfOverrides fs dir [] (config ∷ configs) = ⊥
AreOfOverrides fs dir (o ∷ os) [] = ⊥
AreOfOverrides fs dir (o ∷ os) (config ∷ configs) = IsOfOverride fs dir o config × AreOfOverrides fs dir os configs
