-- The levels: their names, their colours, and which is above which.
use Rattle.std.specs.Prelude.{ℕ, Bool, true, false, List, ◌∷◌, codes}
use Rattle.cc2_reports.specs.declared.level.Level.{Level}
use Rattle.cc2_reports.specs.declared.level.Level.TheVariants as level

abbrev pub level_name : Level → List ℕ
level_name level.Note = codes "note"
level_name level.Warning = codes "warning"
level_name level.Error = codes "error"

-- the escape sequence of a terminal: cyan, yellow or red, and bold
abbrev pub colour_of : Level → List ℕ
colour_of level.Note = 27 ∷ codes "[1;36m"
colour_of level.Warning = 27 ∷ codes "[1;33m"
colour_of level.Error = 27 ∷ codes "[1;31m"

abbrev pub is_level : Level → Level → Bool
is_level level.Note level.Note = true
is_level level.Warning level.Warning = true
is_level level.Error level.Error = true
is_level _ _ = false

-- the second level is the first one or above it
abbrev pub at_least : Level → Level → Bool
at_least level.Note l = true
at_least level.Warning level.Note = false
at_least level.Warning level.Warning = true
at_least level.Warning level.Error = true
at_least level.Error level.Note = false
at_least level.Error level.Warning = false
at_least level.Error level.Error = true
