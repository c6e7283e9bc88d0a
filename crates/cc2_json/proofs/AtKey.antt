-- What is at a key has no float where the whole has none.
use Rattle.std.proofs.Common.{◌≡◌, ◌||◌, ℕ, Bool, true, false, List, [], ◌∷◌, ◌++◌, Option, Some, None, refl, ap}
use Rattle.std.specs.Prelude.{option_and_then, if◌then◌else◌}
use Rattle.serde_json.specs.Data.{Data, object, member, no_members}
use Rattle.serde_json.specs.Find.{get}
use Rattle.serde_json.specs.Written.{has_float}
use Rattle.cc2_json.specs.AtKey.{alone_at, at_key, is_leaf}
use Rattle.cc2_json.specs.TomlPlaces.{Free}
use Rattle.cc2_json.proofs.Floats.{get_free, neither}

-- the last piece is the innermost one
pub alone_last : (pieces : List (List ℕ)) (piece : List ℕ) (d : Data) → alone_at (pieces ++ piece ∷ []) d ≡ alone_at pieces (object (member piece d no_members))
alone_last [] piece d = refl
alone_last (p ∷ pieces) piece d = ap (λ e. object (member p e no_members)) (alone_last pieces piece d)

pub at_free : (origins : Bool) (pieces : List (List ℕ)) (d : Data) → has_float d ≡ false → Free (at_key origins pieces d)
at_free origins [] d h = h
at_free origins (piece ∷ pieces) d h = go (at_free origins pieces) (is_leaf origins d) (get piece d) (get_free piece d h)
  where
    go : ((e : Data) → has_float e ≡ false → Free (at_key origins pieces e)) → (b : Bool) (o : Option Data) → Free o
        → Free (if b then None else option_and_then (at_key origins pieces) o)
    go below true o free = tt
    go below false None free = tt
    go below false (Some e) free = below e free

pub alone_free : (pieces : List (List ℕ)) (d : Data) → has_float d ≡ false → has_float (alone_at pieces d) ≡ false
alone_free [] d h = h
alone_free (piece ∷ pieces) d h = neither (has_float (alone_at pieces d)) false (alone_free pieces d h) refl
