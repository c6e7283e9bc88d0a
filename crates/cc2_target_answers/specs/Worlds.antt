-- What holds in each world that files, real paths and programs agree with.
use Rattle.cc2_base.specs.Told.{Tree}
use Rattle.cc2_cargo.specs.RealPaths.{RealPathMap}
use Rattle.cargo_rules.specs.WithEnv.{AnswersWith}

-- in each tree and with each map of real paths
abbrev pub WhereRead : (Tree → Type 0) → (RealPathMap → Type 0) → (Tree → RealPathMap → Type 0) → Type 0
WhereRead files reals P = (fs : Tree) (real_paths : RealPathMap) → files fs → reals real_paths → P fs real_paths

-- the same with all answers of programs that are run with variables
abbrev pub WhereRun : (Tree → Type 0) → (RealPathMap → Type 0) → (AnswersWith → Type 0) → (Tree → RealPathMap → AnswersWith → Type 0) → Type 0
WhereRun files reals runs P =
    (fs : Tree) (real_paths : RealPathMap) (own : AnswersWith) → files fs → reals real_paths → runs own → P fs real_paths own
