-- The exit of a `?`, seen from what is stated.
use Rattle.std.proofs.Common.{◌≡◌, ◌⊎◌, Result, Ok, Err, IfErr, IsErrAnd, sym, subst}
use Rattle.cc2_error.specs.declared.error.Error.{Error}
use Rattle.cc2_error.specs.Causes.{Refusal, refusal_of}
use Rattle.cc2_error.specs.Outcomes.{IsWantOfMemory, Answered}

pub answered_exit : {T A : Type 0} (view : T → A) (r : Result T Error) (Is : A → Type 0) (Stands : Refusal → Type 0) (e : Error)
    → IsErrAnd r (λ f. f ≡ e) → IsWantOfMemory e ⊎ Stands (refusal_of e) → Answered view r Is Stands
answered_exit view (Ok value) Is Stands e is h = absurd is
answered_exit view (Err f) Is Stands e is h = subst (λ (g : Error). IsWantOfMemory g ⊎ Stands (refusal_of g)) (sym is) h

pub err_exit : {T : Type 0} (r : Result T Error) (P : Error → Type 0) (e : Error) → IsErrAnd r (λ f. f ≡ e) → P e → IfErr r P
err_exit (Ok value) P e is h = absurd is
err_exit (Err f) P e is h = subst P (sym is) h
