-- Worked examples of a command line's targets, computed on the definitions.
use Rattle.std.proofs.Common.{◌≡◌, [], ◌∷◌, Some, None, codes, refl}
use Rattle.cc2_resolved.specs.Targets.{Target}
use Rattle.cargo_config2.specs.BuildTarget.{targets_for_cli}

-- `avr` by the path of its file
abbrev avr : Target
avr = record { triple = codes "avr"; spec_path = Some (codes "/p/avr.json") }

pub given_targets : targets_for_cli (codes "a" ∷ codes "b" ∷ []) (Some (avr ∷ [])) ≡ codes "a" ∷ codes "b" ∷ []
given_targets = refl

pub configured_targets : targets_for_cli [] (Some (avr ∷ record { triple = codes "x"; spec_path = None } ∷ [])) ≡ codes "/p/avr.json" ∷ codes "x" ∷ []
configured_targets = refl

pub no_targets : targets_for_cli [] None ≡ []
no_targets = refl
