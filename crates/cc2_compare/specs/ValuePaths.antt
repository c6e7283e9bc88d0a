-- The key paths of the values in JSON: of all but its tables.
use Rattle.std.specs.Prelude.{ℕ, List, [], ◌∷◌, ◌++◌, Vec}
use Rattle.std.specs.Borrow.{Bor}
use Rattle.std.specs.declared.alloc.Global.{Global}
use Rattle.cc2_value.specs.Rows.{texts_of}
use Rattle.serde_json.specs.Data.{Data, null, boolean, number, string, array, object, Members, no_members, member}

-- the values at a path and below it, in the order of the members
abbrev mutual
  pub paths_from : List (List ℕ) → Data → List (List (List ℕ))
  paths_from path null = path ∷ []
  paths_from path (boolean b) = path ∷ []
  paths_from path (number n) = path ∷ []
  paths_from path (string s) = path ∷ []
  paths_from path (array ds) = path ∷ []
  paths_from path (object ms) = paths_below path ms

  pub paths_below : List (List ℕ) → Members → List (List (List ℕ))
  paths_below path no_members = []
  paths_below path (member k d ms) = paths_from (path ++ k ∷ []) d ++ paths_below path ms

-- the path of each value
abbrev pub value_paths : Data → List (List (List ℕ))
value_paths d = paths_from [] d

-- the keys of the code's list of them
abbrev pub path_view : Vec (Bor (List ℕ)) Global → List (List ℕ)
path_view path = texts_of path.items
