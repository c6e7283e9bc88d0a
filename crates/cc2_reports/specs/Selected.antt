-- Which problems are reported: those that aren't allowed, each once.
use Rattle.std.specs.Prelude.{ℕ, Bool, ◌||◌, List, [], ◌∷◌, ◌++◌, bytes_eq, if◌then◌else◌}
use Rattle.std.specs.List.{list_any}
use Rattle.cc2_reports.specs.Lints.{name_of}
use Rattle.cc2_reports.specs.Problems.{Problem, says_same}

-- its lint is one of those that are allowed
abbrev pub is_allowed : List (List ℕ) → Problem → Bool
is_allowed allowed p = list_any (λ word. bytes_eq word (name_of p.lint)) allowed

-- one of these says the same
abbrev pub is_reported : List Problem → Problem → Bool
is_reported ps p = list_any (says_same p) ps

-- those that aren't allowed and don't say the same as one before, the earlier ones among those
abbrev pub new_among : List (List ℕ) → List Problem → List Problem → List Problem
new_among allowed earlier [] = []
new_among allowed earlier (p ∷ ps) =
    if is_allowed allowed p || is_reported earlier p then new_among allowed earlier ps
    else p ∷ new_among allowed (earlier ++ p ∷ []) ps

-- the problems that are reported of those that are found
abbrev pub reported_among : List (List ℕ) → List Problem → List Problem
reported_among allowed found = new_among allowed [] found
