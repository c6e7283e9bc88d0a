-- Words that are pairs.
use Rattle.std.proofs.Common.{◌≡◌, ◌<◌, ◌==◌, List, [], ◌∷◌, map, length, String, Global, string_bytes, refl, arith}
use Rattle.cc2_cli.specs.Choices.{are_pairs}

-- of less than two words none alone is a pair
pub less_than_two : (ws : List (String Global)) → length ws < 2 → (length ws == 0) ≡ are_pairs (map string_bytes ws)
less_than_two [] h = refl
less_than_two (word ∷ []) h = refl
less_than_two (word ∷ (next ∷ ws)) h = absurd (omega (arith, h))
