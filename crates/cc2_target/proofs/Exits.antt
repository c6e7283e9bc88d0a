-- The exit of a `?`, by what is stated.
use Rattle.std.proofs.Common.{◌≡◌, Option, Some, None, Result, Ok, Err, ok_or, IsErrAnd, refl, sym, subst, ap, ◌∙◌, inl, inr}
use Rattle.cc2_error.specs.Causes.{Refusal, refusal_of}
use Rattle.cc2_error.specs.Outcomes.{Gives, IsRefusal}
use Rattle.cc2_error.specs.declared.error.Error.{Error}

pub gives_exit : {T A : Type 0} (view : T → A) (r : Result T Error) (stated : Result A Refusal) (e : Error)
    → IsErrAnd r (λ f. f ≡ e) → IsRefusal stated e → Gives view r stated
gives_exit view (Ok value) stated e is h = absurd is
gives_exit view (Err f) stated e is h = subst (λ (g : Error). IsRefusal stated g) (sym is) h

-- what passes refusals on is refused so
pub refused_more : {A B : Type 0} (more : Result A Refusal → Result B Refusal)
    → ((refusal : Refusal) → more (Err refusal) ≡ Err refusal) → (stated : Result A Refusal) (whole : Result B Refusal)
    (e : Error) → whole ≡ more stated → IsRefusal stated e → IsRefusal whole e
refused_more more passes stated whole e is (inl memory) = inl memory
refused_more more passes stated whole e is (inr h) = inr (is ∙ ap more h ∙ passes (refusal_of e))

-- a target that a text has, or that it has none
pub known_one : {A : Type 0} (o : Option A) (a : A) (refusal : Refusal) → Ok a ≡ ok_or o refusal → o ≡ Some a
known_one (Some b) a refusal is = cc is
known_one None a refusal is = cc is

pub known_none : {A : Type 0} (o : Option A) (found refusal : Refusal) → Err found ≡ ok_or o refusal
    → (o ≡ None) × (found ≡ refusal)
known_none (Some b) found refusal is = cc is
known_none None found refusal is = (refl, cc is)
