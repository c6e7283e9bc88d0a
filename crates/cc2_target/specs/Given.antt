-- What the code hands over for a target's settings, as one of the definitions; and settings by the sources
-- that were found.
use Rattle.std.specs.Prelude.{◌≡◌, ◌⊎◌, [], option_map, Ok, Err, string_bytes}
use Rattle.cc2_error.specs.Causes.{Refusal}
use Rattle.cc2_value.specs.Singles.{text_value}
use Rattle.cc2_leaf.specs.Commands.{command_value}
use Rattle.cc2_env.specs.Options.{variables_of}
use Rattle.cc2_resolved.specs.Answers.{flags_answer}
use Rattle.cc2_resolved.specs.Resolving.{meant_as, settled}
use Rattle.cc2_resolved.specs.Rows.{made_of}
use Rattle.cc2_resolved.specs.declared.roots.Meant.TheVariants.{Program}
use Rattle.cc2_target.specs.Settings.{Given, or_build, site_for}
use Rattle.cc2_resolved.specs.TargetConfigs.{TargetAnswer}
use Rattle.cc2_target.specs.Sources.{chosen, joined, linker_origin, runner_origin}
use Rattle.cc2_target.specs.declared.given.Given.{Given as CodeGiven}
use Rattle.cc2_target.specs.declared.sources.TargetSources.{TargetSources}

abbrev pub given_in : CodeGiven → Given
given_in g = record {
  tables = g.tables.now;
  vars = variables_of g.context.now;
  directory = string_bytes g.context.now.current_dir;
  build_flags = option_map flags_answer g.build.now.rustflags;
  build_doc_flags = option_map flags_answer g.build.now.rustdocflags;
  flags_overridden = g.flags_overridden;
  doc_flags_overridden = g.doc_flags_overridden;
}

-- the settings by these sources
pub record AreFrom (g : Given) (s : TargetSources) (a : TargetAnswer) : Type 0 where
  pub linker : made_of (meant_as Program (site_for g.directory)) (text_value (chosen (λ t. t.linker) linker_origin s.variables.now.linker s) []) ≡ Ok a.linker
  pub runner : made_of (settled (site_for g.directory)) (command_value (chosen (λ t. t.runner) runner_origin s.variables.now.runner s) []) ≡ Ok a.runner
  pub rustflags : a.rustflags ≡ or_build g.flags_overridden (joined (λ t. t.rustflags) s.variables.now.rustflags s) g.build_flags
  pub rustdocflags : a.rustdocflags
      ≡ or_build g.doc_flags_overridden (joined (λ t. t.rustdocflags) s.variables.now.rustdocflags s) g.build_doc_flags

-- the linker or the runner of these sources has no root
abbrev pub IsRefusedFrom : Given → TargetSources → Refusal → Type 0
IsRefusedFrom g s refusal =
    (made_of (meant_as Program (site_for g.directory)) (text_value (chosen (λ t. t.linker) linker_origin s.variables.now.linker s) []) ≡ Err refusal)
    ⊎ (made_of (settled (site_for g.directory)) (command_value (chosen (λ t. t.runner) runner_origin s.variables.now.runner s) []) ≡ Err refusal)
