-- The text of a variable, by whether it is UTF-8.
use Rattle.std.proofs.Common.{◌≡◌, ℕ, List, Ok, Err, Bool, true, false, cond, refl, sym, ap, ◌∙◌, IsUtf8}
use Rattle.std.specs.Str.{is_utf8}
use Rattle.std.proofs.lemmas.Str.{is_utf8-from_IsUtf8, IsUtf8-from_is_utf8}
use Rattle.cc2_base.specs.EnvTexts.{env_text_of, not_text_refusal}

pub text_is : (name bytes text : List ℕ) → text ≡ bytes → IsUtf8 bytes → env_text_of name bytes ≡ Ok text
unfolding env_text_of
text_is name bytes text e h = ap (λ t. cond t (Ok bytes) (Err (not_text_refusal name bytes))) (is_utf8-from_IsUtf8 bytes h) ∙ ap (λ b. Ok b) (sym e)

pub no_text : (name bytes : List ℕ) → (IsUtf8 bytes → ⊥) → env_text_of name bytes ≡ Err (not_text_refusal name bytes)
unfolding env_text_of
no_text name bytes h = by (is_utf8 bytes) refl
  where
    by : (t : Bool) → is_utf8 bytes ≡ t → cond t (Ok bytes) (Err (not_text_refusal name bytes)) ≡ Err (not_text_refusal name bytes)
    by true e = absurd (h (IsUtf8-from_is_utf8 bytes e))
    by false e = refl
