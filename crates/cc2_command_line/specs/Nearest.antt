-- The known word that is most like another one.
use Rattle.std.specs.Prelude.{ℕ, ◌/◌, nat_le, List, [], ◌∷◌, filter, length, Option, Some, None, if◌then◌else◌}
use Rattle.std.specs.Str.{chars}
use Rattle.strsim.specs.Edits.{osa_table}

-- how many edits lead from one word to another, where exchanging two neighbours is one
abbrev pub edits : List ℕ → List ℕ → ℕ
edits one other = (osa_table (chars one) (chars other)).last_row (length (chars other))

abbrev pub better : (List ℕ → ℕ) → List ℕ → Option (List ℕ) → List ℕ
better measure word None = word
better measure word (Some other) = if nat_le (measure word) (measure other) then word else other

-- the first of those with the least measure
abbrev pub first_least : (List ℕ → ℕ) → List (List ℕ) → Option (List ℕ)
first_least measure [] = None
first_least measure (word ∷ words) = Some (better measure word (first_least measure words))

-- the first of the known words from which the fewest edits lead to a word, at most so many
abbrev pub nearest_within : ℕ → List ℕ → List (List ℕ) → Option (List ℕ)
nearest_within most word known =
    first_least (λ k. edits k word) (filter (λ k. nat_le (edits k word) most) known)

-- the same, where a third of the word's characters are the most
abbrev pub nearest : List ℕ → List (List ℕ) → Option (List ℕ)
nearest word known = nearest_within (length (chars word) / 3) word known
