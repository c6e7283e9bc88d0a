-- Lists of keys.
use Rattle.std.proofs.Common.{◌≡◌, ℕ, Bool, List, [], ◌∷◌, Option, None, Some, option_map, refl, ap}
use Rattle.std.specs.Option.{is_some}
use Rattle.std.specs.Borrow.{Bor}
use Rattle.std.specs.List.{list_any}
use Rattle.std.specs.Prelude.{◌||◌}
use Rattle.cc2_value.specs.Rows.{texts_of}

-- a test of texts, asked of the texts that are lent
pub any_text : (test : List ℕ → Bool) (keys : List (Bor (List ℕ))) → list_any (λ k. test k.now) keys ≡ list_any test (texts_of keys)
any_text test [] = refl
any_text test (k ∷ keys) = ap (λ b. test k.now || b) (any_text test keys)

-- what is there is there when it is looked at
pub is_some-map : {A B : Type 0} (f : A → B) (o : Option A) → is_some o ≡ is_some (option_map f o)
is_some-map f None = refl
is_some-map f (Some a) = refl
