-- Texts by their bytes, and lists of them.
use Rattle.std.specs.Prelude.{ℕ, ◌==◌, Bool, List, map, String, string_bytes}
use Rattle.std.specs.List.{list_any}
use Rattle.std.specs.Borrow.{Bor}
use Rattle.std.specs.Global.{Global}

-- the byte occurs in the text
abbrev pub holds : ℕ → List ℕ → Bool
holds byte text = list_any (λ b. b == byte) text

-- the byte occurs in a text of the list
abbrev pub any_holds : ℕ → List (List ℕ) → Bool
any_holds byte texts = list_any (holds byte) texts

-- what owned texts are
abbrev pub texts_of : List (String Global) → List (List ℕ)
texts_of texts = map string_bytes texts

-- what borrowed texts are
abbrev pub lent_texts : List (Bor (List ℕ)) → List (List ℕ)
lent_texts texts = map (λ text. text.now) texts
