-- A source of the table `source`: its keys, how each is read, and the cells that the table shows there.
-- Cargo Reference, Configuration, `[source]`.
use Rattle.std.specs.Prelude.{List, [], ◌∷◌, codes}
use Rattle.cc2_value.specs.Shown.{Field}
use Rattle.cc2_value.specs.Singles.{text_way, text_value}
use Rattle.cc2_tables.specs.declared.source.SourceConfigValue.{SourceConfigValue}

abbrev pub source_fields : List (Field SourceConfigValue)
source_fields =
    record { key = codes "replace-with"; way = text_way; cells = λ s. text_value s.replace_with }
    ∷ record { key = codes "directory"; way = text_way; cells = λ s. text_value s.directory }
    ∷ record { key = codes "registry"; way = text_way; cells = λ s. text_value s.registry }
    ∷ record { key = codes "local-registry"; way = text_way; cells = λ s. text_value s.local_registry }
    ∷ record { key = codes "git"; way = text_way; cells = λ s. text_value s.git }
    ∷ record { key = codes "branch"; way = text_way; cells = λ s. text_value s.branch }
    ∷ record { key = codes "tag"; way = text_way; cells = λ s. text_value s.tag }
    ∷ record { key = codes "rev"; way = text_way; cells = λ s. text_value s.rev }
    ∷ []
