-- The worlds of equal values, and those that are kept in turn.
use Rattle.std.proofs.Common.{◌≡◌, sym, subst}
use Rattle.cc2_base.specs.Told.{Keeps}

-- equal values have the same worlds
pub tells : {M : Type 0} {a b : M → Type 0} → a ≡ b → (m : M) → b m → a m
tells {M} e m h = subst (λ (t : M → Type 0). t m) (sym e) h

-- the same value keeps its worlds
pub kept_same : {M : Type 0} (a : M → Type 0) → Keeps a a
kept_same a m = (λ h. h, λ h. h)

-- what is kept twice is kept
pub kept_on : {M : Type 0} (a b c : M → Type 0) → Keeps a b → Keeps b c → Keeps a c
kept_on a b c first later m = (λ h. (later m).0 ((first m).0 h), λ h. (first m).1 ((later m).1 h))
