-- The table `future-incompat-report`: its keys, how each is read, and the cells that the table shows there.
-- Cargo Reference, Configuration, `[future-incompat-report]`.
use Rattle.std.specs.Prelude.{List, [], ◌∷◌, codes}
use Rattle.cc2_value.specs.Shown.{Field}
use Rattle.cc2_value.specs.Spelled.{frequency_way, frequency_value}
use Rattle.cc2_tables.specs.declared.future_incompat_report.FutureIncompatReportConfig.{FutureIncompatReportConfig}

abbrev pub report_fields : List (Field FutureIncompatReportConfig)
report_fields =
    record { key = codes "frequency"; way = frequency_way; cells = λ r. frequency_value r.frequency }
    ∷ []
