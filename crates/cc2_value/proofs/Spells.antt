-- Which texts spell a value.
use Rattle.std.proofs.Common.{◌≡◌, ℕ, Bool, true, List, [], ◌∷◌, map, Option, Some, None, Result, Ok, Err, IfErr, IfNone, option_map, cond, ◌||◌, sym, ap, subst, ◌∙◌, inl, inr}
use Rattle.std.specs.Str.{bytes_eq}
use Rattle.std.specs.Result.{result_ok}
use Rattle.std.proofs.lemmas.Bool.{cases_Bool}
use Rattle.std.proofs.lemmas.Slice.Eq.{bytes_eq-Decides}
use Rattle.cc2_error.specs.declared.error.Error.{Error}
use Rattle.cc2_value.specs.Cells.{KeyPath, Origin, Payload, word}
use Rattle.cc2_value.specs.Shown.{single_at}
use Rattle.cc2_value.specs.Spellings.{is_spelling, IsMisspelled}
use Rattle.cc2_value.specs.Values.{setting_of, origin_of}
use Rattle.cc2_value.specs.Ways.{ill_typed, read_at, missing, plain_cell, IsDecoded, IsFaultBehind}
use Rattle.cc2_value.specs.declared.value.Value.{Value}
use Rattle.cc2_value.specs.Spelled.{spelling_in}

module _ {E : Type 0} (spelling : E → List ℕ) where
  found : (values : List E) (text : List ℕ) → is_spelling (map spelling values) text ≡ true → (e : E) × (spelling e ≡ text)
  found [] text h = cc
  found (v ∷ vs) text h =
      elim (cases_Bool (bytes_eq text (spelling v))) [
        | inl same ↦ (v, sym ((bytes_eq-Decides text (spelling v)).0 same))
        | inr apart ↦ found vs text (subst (λ (b : Bool). (b || is_spelling (map spelling vs) text) ≡ true) apart h)
      ]

  -- a text that spells none of the values
  pub unknown : (values : List E) (text : List ℕ) → ((e : E) → spelling e ≡ text → ⊥) → spelling_in (map spelling values) (Some text) ≡ None
  unknown values text none =
      elim (cases_Bool (is_spelling (map spelling values) text)) [
        | inl h ↦ let e = found values text h in absurd (none e.0 e.1)
        | inr h ↦ ap (λ (b : Bool). cond b (Some text) None) h
      ]

  -- the text of a value that is among them
  pub known : (values : List E) (e : E) (text : List ℕ) → is_spelling (map spelling values) (spelling e) ≡ true → spelling e ≡ text → spelling_in (map spelling values) (Some text) ≡ Some (spelling e)
  known values e text listed is =
      ap (λ (t : List ℕ). spelling_in (map spelling values) (Some t)) (sym is) ∙ ap (λ (b : Bool). cond b (Some (spelling e)) None) listed

-- what is read of a text is a value with this payload
pub single_read : {E : Type 0} (payload : E → Payload) (v : Value E) (text : List ℕ) (origin : Option Origin) (read : Option (List ℕ))
    → read ≡ Some text → payload v.val ≡ word text → option_map origin_of v.definition ≡ origin
    → IsDecoded (single_at (setting_of payload)) (λ p. read_at (plain_cell word origin) read p) (missing read) v
single_read payload v text origin read is shows from = (ap missing is, shown)
  where
    shown : (p : KeyPath) → single_at (setting_of payload) v p ≡ read_at (plain_cell word origin) read p
    shown [] = cc
    shown (k ∷ p) = cc

pub none_read : (keys : List (List ℕ)) (read : Option (List ℕ)) (e : Error) → read ≡ None → IsFaultBehind keys (([], ill_typed) ∷ []) e → IsFaultBehind keys (missing read) e
none_read keys read e is h = subst (λ (r : Option (List ℕ)). IsFaultBehind keys (missing r) e) (sym is) h

-- a text that was refused spells none of the values
pub none_spelled : {E : Type 0} (spelling : E → List ℕ) (must : List ℕ) (values : List E) (text : List ℕ) (r : Result E Error) → IfErr r (IsMisspelled spelling must text)
    → IfNone (result_ok r) (spelling_in (map spelling values) (Some text) ≡ None)
none_spelled spelling must values text (Ok e) h = tt
none_spelled spelling must values text (Err e) h = unknown spelling values text h.1
