-- Texts, and arrays of them.
use Rattle.std.proofs.Common.{◌≡◌, ℕ, false, List, [], ◌∷◌, map, Some, refl}
use Rattle.serde_json.specs.Data.{Data, null, boolean, number, string, array, object}
use Rattle.serde_json.specs.Find.{as_str}
use Rattle.serde_json.specs.View.{items_of}
use Rattle.serde_json.specs.Written.{has_float, items_have_float}
use Rattle.cc2_compare.specs.Words.{words}

pub is_text : (d : Data) (t : List ℕ) → as_str d ≡ Some t → d ≡ string t
is_text null t h = cc h
is_text (boolean b) t h = cc h
is_text (number n) t h = cc h
is_text (string s) t h = cc h
is_text (array ds) t h = cc h
is_text (object ms) t h = cc h

items_free : (ts : List (List ℕ)) → items_have_float (items_of (map string ts)) ≡ false
items_free [] = refl
items_free (t ∷ ts) = items_free ts

pub words_free : (ts : List (List ℕ)) → has_float (words ts) ≡ false
words_free ts = items_free ts
