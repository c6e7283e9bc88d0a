-- What a target's resolved settings show.
-- Cargo Reference, Configuration, `[target]`.
use Rattle.std.specs.Prelude.{List, [], ◌∷◌, codes, Option, option_map}
use Rattle.cc2_resolved.specs.Answers.{Answer, text_answer, command_answer, flags_answer}
use Rattle.cc2_resolved.specs.Resolving.{meant_as, settled}
use Rattle.cc2_resolved.specs.Rows.{Row, value}
use Rattle.cc2_resolved.specs.declared.roots.Meant.TheVariants.{Program}
use Rattle.cc2_resolved.specs.declared.target_config.TargetConfig.{TargetConfig}

abbrev pub target_rows : List (Row TargetConfig)
target_rows =
    value (codes "linker") (meant_as Program) (λ t. option_map text_answer t.linker)
    ∷ value (codes "runner") settled (λ t. option_map command_answer t.runner)
    ∷ value (codes "rustflags") settled (λ t. option_map flags_answer t.rustflags)
    ∷ value (codes "rustdocflags") settled (λ t. option_map flags_answer t.rustdocflags)
    ∷ []

-- each setting, where there is one
pub record TargetAnswer : Type 0 where
  pub linker : Option Answer
  pub runner : Option Answer
  pub rustflags : Option Answer
  pub rustdocflags : Option Answer

abbrev pub shown : TargetConfig → TargetAnswer
shown t = record {
  linker = option_map text_answer t.linker;
  runner = option_map command_answer t.runner;
  rustflags = option_map flags_answer t.rustflags;
  rustdocflags = option_map flags_answer t.rustdocflags;
}
