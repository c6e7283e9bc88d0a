-- The resolved table `term.progress`.
-- Cargo Reference, Configuration, `[term]`.
use Rattle.std.specs.Prelude.{List, [], ◌∷◌, codes, option_map}
use Rattle.cc2_value.specs.Spellings.{when_spelling}
use Rattle.cc2_resolved.specs.Answers.{counting_answer, spelled_answer}
use Rattle.cc2_resolved.specs.Resolving.{settled}
use Rattle.cc2_resolved.specs.Rows.{Row, value}
use Rattle.cc2_resolved_tables.specs.declared.term_progress.TermProgressConfig.{TermProgressConfig}

abbrev pub progress_rows : List (Row TermProgressConfig)
progress_rows =
    value (codes "when") settled (λ p. option_map (spelled_answer when_spelling) p.when)
    ∷ value (codes "width") settled (λ p. option_map counting_answer p.width)
    ∷ []
