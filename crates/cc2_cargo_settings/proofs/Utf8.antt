-- Bytes that are no text.
use Rattle.std.proofs.Common.{◌≡◌, ℕ, Bool, true, false, List, refl}
use Rattle.std.proofs.lemmas.Str.{IsUtf8-from_is_utf8}
use Rattle.std.specs.Str.{IsUtf8, is_utf8}

pub not_utf8 : (bytes : List ℕ) → (IsUtf8 bytes → ⊥) → is_utf8 bytes ≡ false
not_utf8 bytes none = go (is_utf8 bytes) (λ is. none (IsUtf8-from_is_utf8 bytes is))
  where
    go : (b : Bool) → (b ≡ true → ⊥) → b ≡ false
    go true h = absurd (h refl)
    go false h = refl
