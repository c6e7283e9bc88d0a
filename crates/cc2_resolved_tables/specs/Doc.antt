-- The resolved table `doc`.
-- Cargo Reference, Configuration, `[doc]`.
use Rattle.std.specs.Prelude.{List, [], ◌∷◌, codes, option_map}
use Rattle.cc2_resolved.specs.Answers.{command_answer}
use Rattle.cc2_resolved.specs.Resolving.{settled}
use Rattle.cc2_resolved.specs.Rows.{Row, value}
use Rattle.cc2_resolved_tables.specs.declared.doc.DocConfig.{DocConfig}

abbrev pub doc_rows : List (Row DocConfig)
doc_rows =
    value (codes "browser") settled (λ d. option_map command_answer d.browser)
    ∷ []
