-- The key paths at which cargo-config2 0.1.45 reads a value.
use Rattle.std.specs.Prelude.{ℕ, Bool, true, false, List, [], ◌∷◌, Option, Some, None}
use Rattle.cc2_findings.specs.Places.{below}
use Rattle.cc2_findings.specs.declared.place.Place.{Place}
use Rattle.cc2_findings.specs.declared.place.Place.TheVariants as at

-- the place of what is at a key. Tables below one of `[target]` are read as that one: a triple may have dots
abbrev pub place_below : Place → List ℕ → Bool → Option Place
place_below at.Target key true = Some at.Target
place_below place key is_table = below place key is_table

abbrev pub has_more : List (List ℕ) → Bool
has_more [] = false
has_more (k ∷ p) = true

-- a value is read at a path below a place, if there is such a place; the keys before the last one are those of tables
abbrev pub is_crate_key_from : Option Place → List (List ℕ) → Bool
is_crate_key_from None p = false
is_crate_key_from (Some place) [] = true
is_crate_key_from (Some place) (k ∷ p) = is_crate_key_from (place_below place k (has_more p)) p

abbrev pub is_crate_key : List (List ℕ) → Bool
is_crate_key p = is_crate_key_from (Some at.Config) p
