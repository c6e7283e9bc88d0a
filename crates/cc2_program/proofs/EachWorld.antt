-- What holds of an option's value in each world.
use Rattle.std.proofs.Common.{IfSome, Option, Some, None}
use Rattle.cc2_base.specs.Told.{WhereTold}

-- what is so in each world of the value, if there is one
pub in_each : {A M : Type 0} (o : Option A) (told : M → Type 0) (P : M → A → Type 0)
    → WhereTold told (λ m. IfSome o (P m)) → IfSome o (λ a. WhereTold told (λ m. P m a))
in_each None told P all = tt
in_each (Some a) told P all = all
