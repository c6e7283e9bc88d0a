-- What holds in each world that files, programs and permissions agree with.
use Rattle.std.specs.Prelude.{ℕ, Bool, List}
use Rattle.cc2_base.specs.Told.{Tree}
use Rattle.cc2_base.specs.ToldPrograms.{Answers}

-- in each tree and with each answer about who can read files
abbrev pub WhereSeen : (Tree → Type 0) → ((List ℕ → Bool) → Type 0) → (Tree → (List ℕ → Bool) → Type 0) → Type 0
WhereSeen files permissions P = (fs : Tree) (is_open : List ℕ → Bool) → files fs → permissions is_open → P fs is_open

-- the same with all answers of the programs
abbrev pub WhereAll : (Tree → Type 0) → (Answers → Type 0) → ((List ℕ → Bool) → Type 0)
    → (Tree → Answers → (List ℕ → Bool) → Type 0) → Type 0
WhereAll files programs permissions P =
    (fs : Tree) (answers : Answers) (is_open : List ℕ → Bool) → files fs → programs answers → permissions is_open
    → P fs answers is_open
