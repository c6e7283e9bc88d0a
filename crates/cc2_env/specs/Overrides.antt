-- Whether variables override the flags of targets.
-- Cargo Reference, Configuration, `build.rustflags`.
use Rattle.std.specs.Prelude.{ℕ, Bool, ◌||◌, List, codes}
use Rattle.std.specs.Option.{is_some}
use Rattle.cc2_env.specs.Kept.{Variables}

-- one of the two variables is set
abbrev pub is_either_set : Variables → List ℕ → List ℕ → Bool
is_either_set vars n m = is_some (vars n) || is_some (vars m)

-- whether variables override the flags of targets, and whether their doc flags
abbrev pub is_overridden : Variables → Bool × Bool
is_overridden vars = (
  is_either_set vars (codes "CARGO_ENCODED_RUSTFLAGS") (codes "RUSTFLAGS"),
  is_either_set vars (codes "CARGO_ENCODED_RUSTDOCFLAGS") (codes "RUSTDOCFLAGS"),
)
