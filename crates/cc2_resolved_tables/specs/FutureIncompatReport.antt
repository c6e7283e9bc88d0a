-- The resolved table `future-incompat-report`.
-- Cargo Reference, Configuration, `[future-incompat-report]`.
use Rattle.std.specs.Prelude.{List, [], ◌∷◌, codes, option_map}
use Rattle.cc2_value.specs.Spellings.{frequency_spelling}
use Rattle.cc2_resolved.specs.Answers.{spelled_answer}
use Rattle.cc2_resolved.specs.Resolving.{settled}
use Rattle.cc2_resolved.specs.Rows.{Row, value}
use Rattle.cc2_resolved_tables.specs.declared.future_incompat_report.FutureIncompatReportConfig.{FutureIncompatReportConfig}

abbrev pub report_rows : List (Row FutureIncompatReportConfig)
report_rows =
    value (codes "frequency") settled (λ r. option_map (spelled_answer frequency_spelling) r.frequency)
    ∷ []
