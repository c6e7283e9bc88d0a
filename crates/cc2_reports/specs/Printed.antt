-- Problems as they are printed.
use Rattle.std.specs.Prelude.{ℕ, Bool, List}
use Rattle.cc2_reports.specs.Json.{json_text}
use Rattle.cc2_reports.specs.Problems.{Problem}
use Rattle.cc2_reports.specs.Sarif.{sarif_text}
use Rattle.cc2_reports.specs.Text.{text_of}
use Rattle.cc2_reports.specs.declared.format.Format.{Format}
use Rattle.cc2_reports.specs.declared.format.Format.TheVariants as format

-- text in colours where they are wanted, or one line of JSON or of SARIF
abbrev pub printed : Format → Bool → List Problem → List ℕ
printed format.Text is_coloured ps = text_of is_coloured ps
printed format.Json is_coloured ps = json_text ps
printed format.Sarif is_coloured ps = sarif_text ps
