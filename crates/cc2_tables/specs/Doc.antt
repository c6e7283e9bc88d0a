-- The table `doc`: its keys, how each is read, and the cells that the table shows there.
-- Cargo Reference, Configuration, `[doc]`.
use Rattle.std.specs.Prelude.{List, [], ◌∷◌, codes}
use Rattle.cc2_value.specs.Shown.{Field}
use Rattle.cc2_leaf.specs.Commands.{command_way, command_value}
use Rattle.cc2_tables.specs.declared.doc.DocConfig.{DocConfig}

abbrev pub doc_fields : List (Field DocConfig)
doc_fields =
    record { key = codes "browser"; way = command_way; cells = λ d. command_value d.browser }
    ∷ []
