-- What holds in each world that real paths and programs agree with.
use Rattle.cc2_cargo.specs.RealPaths.{RealPathMap}
use Rattle.cargo_rules.specs.WithEnv.{AnswersWith}

-- with each map of real paths, and with all answers of programs that are run with variables
abbrev pub WhereBoth : (RealPathMap → Type 0) → (AnswersWith → Type 0) → (RealPathMap → AnswersWith → Type 0) → Type 0
WhereBoth reals runs P = (real_paths : RealPathMap) (own : AnswersWith) → reals real_paths → runs own → P real_paths own
