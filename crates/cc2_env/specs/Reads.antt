-- What is read of the first variable that is set, where all are read in one way.
use Rattle.std.specs.Prelude.{◌≡◌, ◌⊎◌, ℕ, List, [], Contains, Option, Some, None, option_map}
use Rattle.cc2_error.specs.Causes.{Refusal, refusal_of}
use Rattle.cc2_error.specs.Outcomes.{IsWantOfMemory}
use Rattle.cc2_error.specs.declared.error.Error.{Error}
use Rattle.cc2_value.specs.Cells.{KeyPath, Cell, variable}
use Rattle.cc2_leaf.specs.TextWays.{TextWay, any_text_way}
use Rattle.cc2_env.specs.Kept.{Variables}
use Rattle.cc2_env.specs.Ranked.{first_set, value_refusals}
use Rattle.cc2_env.specs.Ranks.{variable_by, named_by}

-- the first of the names that is set, and its value
abbrev pub first_value : Variables → List (List ℕ) → Option (List ℕ × List ℕ)
first_value vars names = option_map (λ f. (f.0.name, f.1)) (first_set vars (named_by any_text_way names))

-- what is read shows the value; nothing is read where no name is set
abbrev pub IsFound : {A : Type 0} → (A → KeyPath → Option Cell) → TextWay → Option (List ℕ × List ℕ) → Option A → Type 0
IsFound look way None None = Unit {0}
IsFound look way (Some f) (Some a) =
    (value_refusals (variable_by f.0 way) f.1 ≡ [])
    × ((p : KeyPath) → look a p ≡ way.cells (Some (variable f.0)) f.1 p)
IsFound look way f a = ⊥

abbrev pub found_refusals : TextWay → Option (List ℕ × List ℕ) → List Refusal
found_refusals way None = []
found_refusals way (Some f) = value_refusals (variable_by f.0 way) f.1

-- memory is refused, or the value is
abbrev pub IsFoundCause : TextWay → Option (List ℕ × List ℕ) → Error → Type 0
IsFoundCause way f e = IsWantOfMemory e ⊎ Contains (found_refusals way f) (refusal_of e)
