-- What is found for some of a list.
use Rattle.std.specs.Prelude.{◌≡◌, ◌⊎◌, List, [], ◌∷◌, Option, Some, None}

module _ {A B : Type 0} (Is : A → Option B → Type 0) where
  -- of each of these, in their order, what it has; those that have nothing are passed over
  abbrev pub AreFound : List A → List (A × B) → Type 0
  AreFound [] found = found ≡ []
  AreFound (a ∷ more) found =
      (Is a None × AreFound more found)
      ⊎ ((b : B) × (others : List (A × B)) × (found ≡ (a, b) ∷ others) × Is a (Some b) × AreFound more others)

-- one of them, where it has something
abbrev pub where_found : {A B : Type 0} → A → Option B → List (A × B)
where_found a None = []
where_found a (Some b) = (a, b) ∷ []
