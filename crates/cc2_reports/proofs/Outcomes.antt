-- What holds of a result, from what holds of it.
use Rattle.std.proofs.Common.{◌≡◌, Result, Ok, Err, IfOk, IfErr, sym, ◌∙◌}

pub if_ok : {T E : Type 0} (r : Result T E) (P Q : T → Type 0) → ((v : T) → P v → Q v) → IfOk r P → IfOk r Q
if_ok (Ok v) P Q f h = f v h
if_ok (Err e) P Q f h = h

pub if_err : {T E : Type 0} (r : Result T E) (P Q : E → Type 0) → ((e : E) → P e → Q e) → IfErr r P → IfErr r Q
if_err (Ok v) P Q f h = h
if_err (Err e) P Q f h = f e h

-- values of the same result are the same
pub same_value : {T E : Type 0} (r : Result T E) (a b : T) → r ≡ Ok a → r ≡ Ok b → a ≡ b
same_value (Ok v) a b first other =
    let one : v ≡ a = cc first in
    let two : v ≡ b = cc other in
    sym one ∙ two
same_value (Err e) a b first other = cc first
