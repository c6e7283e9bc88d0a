-- The table `build`: its keys, how each is read, and the cells that the table shows there.
-- Cargo Reference, Configuration, `[build]`.
use Rattle.std.specs.Prelude.{List, [], ◌∷◌, codes}
use Rattle.cc2_value.specs.Shown.{Field}
use Rattle.cc2_leaf.specs.Lists.{list_way, flags_value}
use Rattle.cc2_value.specs.Singles.{int32_way, whole_number, text_way, text_value, truth_way, truth_value}
use Rattle.cc2_leaf.specs.Wholes.{whole_way, whole_value}
use Rattle.cc2_tables.specs.declared.build.BuildConfig.{BuildConfig}

abbrev pub build_fields : List (Field BuildConfig)
build_fields =
    record { key = codes "jobs"; way = int32_way; cells = λ b. whole_number b.jobs }
    ∷ record { key = codes "rustc"; way = text_way; cells = λ b. text_value b.rustc }
    ∷ record { key = codes "rustc-wrapper"; way = text_way; cells = λ b. text_value b.rustc_wrapper }
    ∷ record { key = codes "rustc-workspace-wrapper"; way = text_way; cells = λ b. text_value b.rustc_workspace_wrapper }
    ∷ record { key = codes "rustdoc"; way = text_way; cells = λ b. text_value b.rustdoc }
    ∷ record { key = codes "target"; way = whole_way; cells = λ b. whole_value b.target }
    ∷ record { key = codes "target-dir"; way = text_way; cells = λ b. text_value b.target_dir }
    ∷ record { key = codes "build-dir"; way = text_way; cells = λ b. text_value b.build_dir }
    ∷ record { key = codes "rustflags"; way = list_way; cells = λ b. flags_value b.rustflags }
    ∷ record { key = codes "rustdocflags"; way = list_way; cells = λ b. flags_value b.rustdocflags }
    ∷ record { key = codes "incremental"; way = truth_way; cells = λ b. truth_value b.incremental }
    ∷ record { key = codes "dep-info-basedir"; way = text_way; cells = λ b. text_value b.dep_info_basedir }
    ∷ []
