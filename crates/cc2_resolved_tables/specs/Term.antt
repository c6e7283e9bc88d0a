-- The resolved table `term`.
-- Cargo Reference, Configuration, `[term]`.
use Rattle.std.specs.Prelude.{List, [], ◌∷◌, codes, option_map}
use Rattle.cc2_value.specs.Spellings.{color_spelling}
use Rattle.cc2_resolved.specs.Answers.{spelled_answer, truth_answer}
use Rattle.cc2_resolved.specs.Resolving.{settled}
use Rattle.cc2_resolved.specs.Rows.{Row, value, by_row, rows_at}
use Rattle.cc2_resolved_tables.specs.TermProgress.{progress_rows}
use Rattle.cc2_resolved_tables.specs.declared.term.TermConfig.{TermConfig}

abbrev pub term_rows : List (Row TermConfig)
term_rows =
    value (codes "quiet") settled (λ t. option_map truth_answer t.quiet)
    ∷ value (codes "verbose") settled (λ t. option_map truth_answer t.verbose)
    ∷ value (codes "color") settled (λ t. option_map (spelled_answer color_spelling) t.color)
    ∷ record { key = codes "progress"; how = by_row progress_rows; shows = λ t. rows_at progress_rows t.progress }
    ∷ []
