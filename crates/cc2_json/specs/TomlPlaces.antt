-- Places of a walk over a configuration's JSON: each a dotted key and what is there.
use Rattle.std.specs.Prelude.{◌≡◌, ◌<◌, ◌+◌, ◌++◌, ℕ, suc, Bool, false, List, [], ◌∷◌, map, reverse, Option, Some, None, string_bytes}
use Rattle.serde_json.specs.Data.{Data, null, boolean, number, string, array, object, Members, no_members, member}
use Rattle.serde_json.specs.View.{view}
use Rattle.serde_json.specs.Written.{has_float}
use Rattle.cc2_json.specs.TomlLines.{key_below, lines_at}
use Rattle.cc2_json.specs.declared.lines.Place.{Place}

abbrev pub place_view : Place → List ℕ × Data
place_view place = (string_bytes place.key, view place.json.now)

-- what is directly below a key
abbrev pub below_of : List ℕ → Members → List (List ℕ × Data)
below_of key no_members = []
below_of key (member name d ms) = (key_below key name, d) ∷ below_of key ms

-- nothing, or a value without floats
abbrev pub Free : Option Data → Type 0
Free None = Unit {0}
Free (Some d) = has_float d ≡ false

-- how many values and tables there are
abbrev mutual
  pub weight : Data → ℕ
  weight null = 1
  weight (boolean b) = 1
  weight (number n) = 1
  weight (string s) = 1
  weight (array ds) = 1
  weight (object ms) = suc (members_weight ms)

  pub members_weight : Members → ℕ
  members_weight no_members = 0
  members_weight (member k d ms) = weight d + members_weight ms

abbrev pub weights : List (List ℕ × Data) → ℕ
weights [] = 0
weights (p ∷ ps) = weight p.1 + weights ps

-- the lines of places in turn
abbrev pub lines_of : Bool → List (List ℕ × Data) → List ℕ
lines_of origins [] = []
lines_of origins (p ∷ ps) = lines_at origins p.0 p.1 ++ lines_of origins ps

-- none of them has a float
abbrev pub AllFree : List (List ℕ × Data) → Type 0
AllFree [] = Unit {0}
AllFree (p ∷ ps) = (has_float p.1 ≡ false) × AllFree ps

-- the places that are left, the next one first
abbrev pub places_of : List Place → List (List ℕ × Data)
places_of left = map place_view (reverse left)

-- from a place and those after it to these, with fewer values left, and the lines of all still to come or written
pub record IsWalked (origins : Bool) (p : List ℕ × Data) (ps : List (List ℕ × Data)) (before : List ℕ) (qs : List (List ℕ × Data)) (after : List ℕ) : Type 0 where
  pub fewer : weights qs < weights (p ∷ ps)
  pub free : AllFree (p ∷ ps) → AllFree qs
  pub lines : AllFree (p ∷ ps) → after ++ lines_of origins qs ≡ before ++ lines_of origins (p ∷ ps)
