-- The place at which a list no longer has a map is one of the list.
use Rattle.std.proofs.Common.{◌≡◌, ℕ, ◌+◌, ◌≤◌, length, List, Option, Result, Ok, Err, sym, ap, ◌∙◌, inl, inr, arith}
use Rattle.std.proofs.lemmas.Bool.{cases_Bool, ltb-true, ltb-false}
use Rattle.std.proofs.lemmas.List.{take_all}
use Rattle.std.specs.Prelude.{nat_lt}
use Rattle.cc2_error.specs.declared.error.Error.{Error}
use Rattle.cc2_error.specs.declared.error.Shape.{Shape}
use Rattle.cc2_value.specs.Cells.{KeyPath, Cell, joined, cells_at}
use Rattle.cc2_value.specs.Places.{IsMixedFrom}

not_both : (o : Result (Option Cell) (Shape × Shape)) (a : Option Cell) (m : Shape × Shape) → o ≡ Ok a → o ≡ Err m → ⊥
not_both o a m h k = cc

pub inside : {A : Type 0} (look : A → KeyPath → Option Cell) (xs : List A) (place : ℕ) (e : Error) → IsMixedFrom look xs place e → place + 1 ≤ length xs
inside look xs place e h =
    elim (cases_Bool (nat_lt place (length xs))) [
      | inl less ↦ omega (arith, ltb-true place (length xs) less)
      | inr over ↦
          let le : length xs ≤ place = ltb-false place (length xs) over in
          let before = (h.before h.path).1 in
          absurd (not_both (joined (cells_at look h.path xs)) (h.before h.path).0 h.shapes
          (ap (λ ys. joined (cells_at look h.path ys)) (sym (take_all place xs le)) ∙ before)
          (ap (λ ys. joined (cells_at look h.path ys)) (sym (take_all (place + 1) xs (omega (arith, le)))) ∙ h.meet.0))
    ]
