-- The table `cargo-new`: its keys, how each is read, and the cells that the table shows there.
-- Cargo Reference, Configuration, `[cargo-new]`.
use Rattle.std.specs.Prelude.{List, [], ◌∷◌, codes}
use Rattle.cc2_value.specs.Shown.{Field}
use Rattle.cc2_value.specs.Spelled.{vcs_way, vcs_value}
use Rattle.cc2_tables.specs.declared.cargo_new.CargoNewConfig.{CargoNewConfig}

abbrev pub new_fields : List (Field CargoNewConfig)
new_fields =
    record { key = codes "vcs"; way = vcs_way; cells = λ n. vcs_value n.vcs }
    ∷ []
