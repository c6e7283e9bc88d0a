-- Texts that are appended one after the other.
use Rattle.std.proofs.Common.{◌≡◌, ℕ, List, [], ◌∷◌, ◌++◌, append_assoc, sym, ◌∙◌}
use Rattle.std.proofs.lemmas.List.{append-nil}
use Rattle.std.specs.Prelude.{flat_map}

-- a text, and after it the texts of these, appended one by one
abbrev pub appended : {A : Type 0} → (A → List ℕ) → List A → List ℕ → List ℕ
appended f [] text = text
appended f (x ∷ xs) text = appended f xs (text ++ f x)

appended_is : {A : Type 0} (f : A → List ℕ) (xs : List A) (text : List ℕ) → appended f xs text ≡ text ++ flat_map f xs
appended_is f [] text = sym (append-nil text)
appended_is f (x ∷ xs) text = appended_is f xs (text ++ f x) ∙ append_assoc text (f x) (flat_map f xs)

-- what comes of appending them one by one is their texts, one after the other
pub as_one : {A : Type 0} (f : A → List ℕ) (xs : List A) {out : List ℕ} → out ≡ appended f xs [] → out ≡ flat_map f xs
as_one f xs h = h ∙ appended_is f xs []
