-- Answers that may be refused, one or several in turn.
use Rattle.std.specs.Prelude.{List, [], ◌∷◌, Result, Ok, Err}
use Rattle.cc2_error.specs.Causes.{Refusal}

abbrev pub map_ok : {A B : Type 0} → (A → B) → Result A Refusal → Result B Refusal
map_ok f (Ok a) = Ok (f a)
map_ok f (Err refusal) = Err refusal

-- an answer, and others after it, or the first refusal
abbrev pub before : {A : Type 0} → Result A Refusal → Result (List A) Refusal → Result (List A) Refusal
before (Err refusal) others = Err refusal
before (Ok a) (Err refusal) = Err refusal
before (Ok a) (Ok bs) = Ok (a ∷ bs)

-- what f makes of each, or the first refusal
abbrev pub in_turn : {A B : Type 0} → (A → Result B Refusal) → List A → Result (List B) Refusal
in_turn f [] = Ok []
in_turn f (x ∷ xs) = before (f x) (in_turn f xs)
