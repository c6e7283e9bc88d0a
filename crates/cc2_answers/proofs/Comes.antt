-- What a result comes to, by what is stated.
use Rattle.std.proofs.Common.{◌≡◌, ◌⊎◌, ℕ, List, Result, Ok, Err, Vec, Global, IfOk, IfErr, IsErrAnd, sym, ap, subst, ◌∙◌, inl, inr}
use Rattle.cc2_error.specs.Causes.{Refusal, refusal_of}
use Rattle.cc2_error.specs.Outcomes.{IsRefusal, IsWantOfMemory}
use Rattle.cc2_error.specs.declared.error.Error.{Error}
use Rattle.cc2_answers.specs.Outcomes.{ComesTo, in_lines}

-- the exit of a `?`
pub comes_exit : (Is : Result (List ℕ) Refusal → Type 0) (r : Result (Vec ℕ Global) Error) (e : Error) → IsErrAnd r (λ f. f ≡ e)
    → IsWantOfMemory e ⊎ Is (Err (refusal_of e)) → ComesTo Is r
comes_exit Is (Ok text) e is h = absurd is
comes_exit Is (Err f) e is h = subst (λ (g : Error). IsWantOfMemory g ⊎ Is (Err (refusal_of g))) (sym is) h

-- a refusal that is stated is the one in place of lines
pub refused_lines : {A : Type 0} (lines : A → List ℕ) (stated : Result A Refusal) (e : Error) → IsRefusal stated e
    → IsWantOfMemory e ⊎ (Err (refusal_of e) ≡ in_lines lines stated)
refused_lines lines stated e (inl wants) = inl wants
refused_lines {A} lines stated e (inr is) = inr (sym (ap (λ (o : Result A Refusal). in_lines lines o) is))

-- the lines of an answer that is stated
pub given_lines : {A : Type 0} (lines : A → List ℕ) (stated : Result A Refusal) (a : A) (text : List ℕ) → stated ≡ Ok a → text ≡ lines a
    → Ok text ≡ in_lines lines stated
given_lines {A} lines stated a text is written = ap Ok written ∙ sym (ap (λ (o : Result A Refusal). in_lines lines o) is)

-- lines that memory alone refuses
pub comes_alone : (lines : List ℕ) (r : Result (Vec ℕ Global) Error) → IfOk r (λ text. text.items ≡ lines) → IfErr r IsWantOfMemory
    → ComesTo (λ outcome. outcome ≡ Ok lines) r
comes_alone lines (Ok text) is wants = ap Ok is
comes_alone lines (Err e) is wants = inl wants
