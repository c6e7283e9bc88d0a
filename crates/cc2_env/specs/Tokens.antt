-- Environments that differ in the bytes of tokens that aren't text, and in nothing else.
use Rattle.std.specs.Prelude.{◌≡◌, ◌⊎◌, ℕ, true, false, List, Option, Some}
use Rattle.std.specs.Str.{is_utf8}
use Rattle.cc2_base.specs.ShownValue.{is_token_name}
use Rattle.cc2_env.specs.Kept.{Variables}

-- both are set, and neither is text
abbrev pub AreNoTexts : Option (List ℕ) → Option (List ℕ) → Type 0
AreNoTexts (Some v) (Some w) = (is_utf8 v ≡ false) × (is_utf8 w ≡ false)
AreNoTexts v w = ⊥

abbrev pub DifferInTokens : Variables → Variables → Type 0
DifferInTokens vars other =
    (name : List ℕ) → (vars name ≡ other name)
    ⊎ ((is_token_name name ≡ true) × AreNoTexts (vars name) (other name))
