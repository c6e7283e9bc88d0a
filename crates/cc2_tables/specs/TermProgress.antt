-- The table `term.progress`: its keys, how each is read, and the cells that the table shows there.
-- Cargo Reference, Configuration, `[term]`.
use Rattle.std.specs.Prelude.{List, [], ◌∷◌, codes}
use Rattle.cc2_value.specs.Shown.{Field}
use Rattle.cc2_value.specs.Singles.{uint32_way, counting_number}
use Rattle.cc2_value.specs.Spelled.{when_way, when_value}
use Rattle.cc2_tables.specs.declared.term_progress.TermProgress.{TermProgress}

abbrev pub progress_fields : List (Field TermProgress)
progress_fields =
    record { key = codes "when"; way = when_way; cells = λ t. when_value t.when }
    ∷ record { key = codes "width"; way = uint32_way; cells = λ t. counting_number t.width }
    ∷ []
