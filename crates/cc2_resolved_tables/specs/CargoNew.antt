-- The resolved table `cargo-new`.
-- Cargo Reference, Configuration, `[cargo-new]`.
use Rattle.std.specs.Prelude.{List, [], ◌∷◌, codes, option_map}
use Rattle.cc2_value.specs.Spellings.{vcs_spelling}
use Rattle.cc2_resolved.specs.Answers.{spelled_answer}
use Rattle.cc2_resolved.specs.Resolving.{settled}
use Rattle.cc2_resolved.specs.Rows.{Row, value}
use Rattle.cc2_resolved_tables.specs.declared.cargo_new.CargoNewConfig.{CargoNewConfig}

abbrev pub new_rows : List (Row CargoNewConfig)
new_rows =
    value (codes "vcs") settled (λ n. option_map (spelled_answer vcs_spelling) n.vcs)
    ∷ []
