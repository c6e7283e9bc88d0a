-- The table `term`: its keys, how each is read, and the cells that the table shows there.
-- Cargo Reference, Configuration, `[term]`.
use Rattle.std.specs.Prelude.{List, [], ◌∷◌, codes}
use Rattle.cc2_value.specs.Shown.{Field, fields_at}
use Rattle.cc2_value.specs.Reading.{table_way}
use Rattle.cc2_value.specs.Singles.{truth_way, truth_value}
use Rattle.cc2_value.specs.Spelled.{color_way, color_value}
use Rattle.cc2_tables.specs.TermProgress.{progress_fields}
use Rattle.cc2_tables.specs.declared.term.TermConfig.{TermConfig}

abbrev pub term_fields : List (Field TermConfig)
term_fields =
    record { key = codes "quiet"; way = truth_way; cells = λ t. truth_value t.quiet }
    ∷ record { key = codes "verbose"; way = truth_way; cells = λ t. truth_value t.verbose }
    ∷ record { key = codes "color"; way = color_way; cells = λ t. color_value t.color }
    ∷ record { key = codes "progress"; way = table_way progress_fields; cells = λ t p. fields_at progress_fields t.progress p }
    ∷ []
