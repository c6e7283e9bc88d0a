-- The lines that say what was being done when a load was refused.
use Rattle.std.specs.Prelude.{◌≡◌, ◌≢◌, ◌⊎◌, ◌-◌, ◌==◌, ℕ, List, ◌++◌, codes, decimal, if◌then◌else◌}
use Rattle.cc2_error.specs.Causes.{memory, Refusal, plain, in_context}

abbrev pub read_line : List ℕ → List ℕ
read_line path = codes "failed to read `" ++ (path ++ codes "`")

abbrev pub parse_line : List ℕ → List ℕ
parse_line path = codes "failed to parse `" ++ (path ++ codes "` as cargo configuration")

abbrev pub merge_line : List ℕ → List ℕ → List ℕ
merge_line from into = codes "failed to merge config from `" ++ (from ++ (codes "` into `" ++ (into ++ codes "`")))

-- the override of this number, counted from 1, is no configuration
abbrev pub override_line : ℕ → List ℕ
override_line n = codes "failed to parse override " ++ (decimal n ++ codes " as cargo configuration")

-- the override of the one number doesn't merge into that of the other
abbrev pub override_merge_line : ℕ → ℕ → List ℕ
override_merge_line from into =
    codes "failed to merge config from `--config " ++ (decimal from ++ (codes "` into `--config " ++ (decimal into ++ codes "`")))

-- what is below the overrides doesn't merge into the last one
abbrev pub below_merge_line : ℕ → List ℕ
below_merge_line into = codes "failed to merge config into `--config " ++ (decimal into ++ codes "`")

-- of so many overrides, the latest at place 0, and of what is below after them: that at a place doesn't
-- merge into those before it
abbrev pub over_line : ℕ → ℕ → List ℕ
over_line count place = if place == count then below_merge_line count else override_merge_line (count - place) count

-- the refusal with the line, or out of memory, which never has one
abbrev pub IsToldIn : List ℕ → Refusal → Refusal → Type 0
IsToldIn line inner outer = (outer ≡ plain memory) ⊎ ((inner.cause ≢ memory) × (outer ≡ in_context line inner))
