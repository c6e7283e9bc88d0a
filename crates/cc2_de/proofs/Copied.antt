-- A copy of a TOML table has the same members.
use Rattle.std.proofs.Common.{◌≡◌, List, [], ◌∷◌, string_bytes, refl}
use Rattle.std.specs.List.{AllZip}
use Rattle.toml.specs.Data.{member}
use Rattle.toml.specs.View.{view, members_view}
use Rattle.toml.proofs.Views.{Entry}

pub members_copied : (xs ys : List Entry) → AllZip (λ p q. (string_bytes q.0 ≡ string_bytes p.0) × (view q.1 ≡ view p.1)) xs ys → members_view ys ≡ members_view xs
members_copied [] [] h = refl
members_copied [] (y ∷ ys) h = absurd h
members_copied (x ∷ xs) [] h = absurd h
members_copied (x ∷ xs) (y ∷ ys) h = λ i. member (h.0.0 i) (h.0.1 i) (members_copied xs ys h.1 i)
