-- The resolved table `build`: how each field is resolved, and what the table shows there.
-- Cargo Reference, Configuration, `[build]`.
use Rattle.std.specs.Prelude.{List, [], ◌∷◌, codes, option_map}
use Rattle.cc2_resolved.specs.Answers.{flags_answer, targets_answer, text_answer, truth_answer, whole_answer}
use Rattle.cc2_resolved.specs.Resolving.{meant_as, settled, settled_targets}
use Rattle.cc2_resolved.specs.Rows.{Row, value}
use Rattle.cc2_resolved_tables.specs.declared.build.BuildConfig.{BuildConfig}
use Rattle.cc2_resolved.specs.declared.roots.Meant.TheVariants.{BuildDir, Path, Program}

abbrev pub build_rows : List (Row BuildConfig)
build_rows =
    value (codes "jobs") settled (λ b. option_map whole_answer b.jobs)
    ∷ value (codes "rustc") (meant_as Program) (λ b. option_map text_answer b.rustc)
    ∷ value (codes "rustc-wrapper") (meant_as Program) (λ b. option_map text_answer b.rustc_wrapper)
    ∷ value (codes "rustc-workspace-wrapper") (meant_as Program) (λ b. option_map text_answer b.rustc_workspace_wrapper)
    ∷ value (codes "rustdoc") (meant_as Program) (λ b. option_map text_answer b.rustdoc)
    ∷ value (codes "target") settled_targets (λ b. option_map targets_answer b.target)
    ∷ value (codes "target-dir") (meant_as Path) (λ b. option_map text_answer b.target_dir)
    ∷ value (codes "build-dir") (meant_as BuildDir) (λ b. option_map text_answer b.build_dir)
    ∷ value (codes "rustflags") settled (λ b. option_map flags_answer b.rustflags)
    ∷ value (codes "rustdocflags") settled (λ b. option_map flags_answer b.rustdocflags)
    ∷ value (codes "incremental") settled (λ b. option_map truth_answer b.incremental)
    ∷ value (codes "dep-info-basedir") (meant_as Path) (λ b. option_map text_answer b.dep_info_basedir)
    ∷ []
