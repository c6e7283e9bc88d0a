-- What is reported of paths.
use Rattle.std.proofs.Common.{◌≡◌, ℕ, length, true, false, List, [], ◌∷◌, map, String, Global, string_bytes, true≢false, arith}
use Rattle.std.specs.Prelude.{◌==◌}
use Rattle.cc2_base.specs.Told.{Tree}
use Rattle.cc2_base.specs.declared.machine.Machine.{Machine}
use Rattle.cc2_cargo.specs.RealPaths.{RealPathMap}
use Rattle.cc2_reports.specs.Each.{AreOfEach}
use Rattle.cc2_reports.specs.Problems.{subjects_of}
use Rattle.cc2_reports.specs.declared.report.Report.{Report}
use Rattle.cargo_rules.specs.WithEnv.{AnswersWith}
use Rattle.cc2_compare.specs.Reports.{AreCompared, AreComparedFor, AreOfPath}

not_none : (p : String Global) (ps : List (String Global)) → (length (p ∷ ps) == 0) ≡ true → ⊥
not_none p ps none = grind (arith, none)

module _ (fs : Tree) (reals : RealPathMap) (runs : AnswersWith → Type 0) (machine : Machine) (targets : List (List ℕ)) (dir : List ℕ) where
  pub compared_none : (paths : List (String Global)) (reports : List Report) → (length paths == 0) ≡ true
      → AreCompared fs reals runs machine targets dir (subjects_of reports)
      → AreComparedFor fs reals runs machine targets dir (map string_bytes paths) reports
  compared_none [] reports none h = h
  compared_none (p ∷ ps) reports none h = absurd (not_none p ps none)

  pub compared_each : (paths : List (String Global)) (reports : List Report) → (length paths == 0) ≡ false
      → AreOfEach (AreOfPath fs reals runs machine targets) (map string_bytes paths) reports
      → AreComparedFor fs reals runs machine targets dir (map string_bytes paths) reports
  compared_each [] reports some h = absurd (true≢false some)
  compared_each (p ∷ ps) reports some h = h
