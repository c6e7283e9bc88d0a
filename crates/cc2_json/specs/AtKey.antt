-- What is at a key of a configuration's JSON, and it as one line.
use Rattle.std.specs.Prelude.{ℕ, Bool, false, ◌&&◌, ◌||◌, List, [], ◌∷◌, ◌++◌, codes, Option, Some, None, option_and_then, is_some, if◌then◌else◌}
use Rattle.serde_json.specs.Data.{Data, object, no_members, member}
use Rattle.serde_json.specs.Find.{as_null, as_str, get}
use Rattle.serde_json.specs.Written.{compact_text}

-- a place is a text, or by nothing
abbrev pub tells_place : Option Data → Bool
tells_place None = false
tells_place (Some d) = is_some (as_str d) || is_some (as_null d)

-- nowhere, or a file, a variable or the command line
abbrev pub is_origin : Option Data → Bool
is_origin None = false
is_origin (Some d) =
    is_some (as_null d) || (tells_place (get (codes "file") d) || (tells_place (get (codes "variable") d) || tells_place (get (codes "command-line") d)))

-- whether it is a value beside its origin, where values are written with their origins
abbrev pub is_leaf : Bool → Data → Bool
is_leaf origins d = origins && is_origin (get (codes "origin") d)

-- what is at the pieces of a key; where values are written with their origins, a value has no keys below it
abbrev pub at_key : Bool → List (List ℕ) → Data → Option Data
at_key origins [] d = Some d
at_key origins (piece ∷ pieces) d = if is_leaf origins d then None else option_and_then (at_key origins pieces) (get piece d)

-- an object that has it alone, at the key
abbrev pub alone_at : List (List ℕ) → Data → Data
alone_at [] d = d
alone_at (piece ∷ pieces) d = object (member piece (alone_at pieces d) no_members)

-- one line of it
abbrev pub json_line : Data → List ℕ
json_line d = compact_text d ++ 10 ∷ []
