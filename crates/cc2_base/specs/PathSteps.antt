-- What the iterators over a path have left, and what one step takes.
use Rattle.std.specs.Prelude.{◌≡◌, ℕ, List, [], ◌∷◌, Option, Some, None, option_map, MatchOption}
use Rattle.std.specs.declared.path.Component.{Component}
use Rattle.std.specs.declared.path.Component.TheVariants.{RootDir, CurDir, ParentDir, Normal}
use Rattle.std.specs.Path.Iter.{path_iter_remaining}
use Rattle.cc2_base.specs.Paths.{ancestors_of}
use Rattle.cc2_base.specs.declared.path_iter.Ancestors.{Ancestors}
use Rattle.cc2_base.specs.declared.path_iter.Components.{Components}

abbrev pub ancestors_from : Option (List ℕ) → List (List ℕ)
ancestors_from None = []
ancestors_from (Some p) = ancestors_of p

-- the ancestors that are still to come
abbrev pub ancestors_left : Ancestors → List (List ℕ)
ancestors_left s = ancestors_from (option_map (λ p. p.now) s.next)

-- the components that are still to come
abbrev pub components_left : Components → List (List ℕ)
components_left s = path_iter_remaining s.inner

-- the item is the first of the texts before, and those after are the others; none where there is no text
abbrev pub TakesFirst : List (List ℕ) → Option (List ℕ) → List (List ℕ) → Type 0
TakesFirst before item after = MatchOption item ((before ≡ []) × (after ≡ [])) (λ text. before ≡ text ∷ after)

-- the name that a component gives a file
abbrev pub name_in : Option Component → Option (List ℕ)
name_in None = None
name_in (Some RootDir) = None
name_in (Some CurDir) = None
name_in (Some ParentDir) = None
name_in (Some (Normal name)) = Some name.now
