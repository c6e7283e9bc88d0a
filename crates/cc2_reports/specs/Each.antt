-- What each of a list gives, one after another.
use Rattle.std.specs.Prelude.{◌≡◌, List, [], ◌∷◌, ◌++◌}

-- each of these gives a part of what is there, one after another
abbrev pub AreOfEach : {A B : Type 0} → (A → List B → Type 0) → List A → List B → Type 0
AreOfEach Gives [] all = all ≡ []
AreOfEach {A} {B} Gives (a ∷ more) all =
    (own : List B) × (others : List B) × (all ≡ own ++ others) × Gives a own × AreOfEach Gives more others
