-- How many problems there are of each level, and the exit status.
use Rattle.std.specs.Prelude.{ℕ, Bool, true, false, List, [], ◌∷◌, ◌+◌}
use Rattle.std.specs.List.{list_any}
use Rattle.cc2_reports.specs.Levels.{at_least, is_level}
use Rattle.cc2_reports.specs.Lints.{level_of}
use Rattle.cc2_reports.specs.Problems.{Problem}
use Rattle.cc2_reports.specs.declared.grade.Counts.{Counts}
use Rattle.cc2_reports.specs.declared.level.Level.{Level}
use Rattle.cc2_reports.specs.declared.level.Level.TheVariants as level

abbrev pub one_if : Bool → ℕ
one_if true = 1
one_if false = 0

-- how many of these are of this level
abbrev pub count_of : Level → List Problem → ℕ
count_of l [] = 0
count_of l (p ∷ ps) = one_if (is_level l (level_of p.lint)) + count_of l ps

abbrev pub counts_of : List Problem → Counts
counts_of ps =
    record { errors = count_of level.Error ps; warnings = count_of level.Warning ps; notes = count_of level.Note ps }

-- 1 exactly where one of these is at this level or above it
abbrev pub status_for : Level → List Problem → ℕ
status_for deny ps = one_if (list_any (λ p. at_least deny (level_of p.lint)) ps)
