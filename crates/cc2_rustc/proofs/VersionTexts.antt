-- An output as a text, by whether it is UTF-8.
use Rattle.std.proofs.Common.{◌≡◌, ℕ, List, Ok, Err, Bool, true, false, cond, refl, sym, ap, ◌∙◌, IsUtf8}
use Rattle.std.specs.Str.{is_utf8}
use Rattle.std.proofs.lemmas.Str.{is_utf8-from_IsUtf8, IsUtf8-from_is_utf8}
use Rattle.cc2_error.specs.Causes.{plain, output_not_text}
use Rattle.cc2_error.specs.Commands.{Command}
use Rattle.cc2_rustc.specs.LineEnds.{without_line_ends}
use Rattle.cc2_rustc.specs.Said.{as_text}

pub is_text : (c : Command) (bytes text : List ℕ) → text ≡ without_line_ends bytes → IsUtf8 text → as_text c bytes ≡ Ok text
is_text c bytes text e h =
    ap (λ (t : List ℕ). cond (is_utf8 t) (Ok t) (Err (plain (output_not_text c)))) (sym e)
    ∙ ap (λ (b : Bool). cond b (Ok text) (Err (plain (output_not_text c)))) (is_utf8-from_IsUtf8 text h)

pub is_no_text : (c : Command) (bytes text : List ℕ) → text ≡ without_line_ends bytes → (IsUtf8 text → ⊥)
    → as_text c bytes ≡ Err (plain (output_not_text c))
is_no_text c bytes text e h =
    ap (λ (t : List ℕ). cond (is_utf8 t) (Ok t) (Err (plain (output_not_text c)))) (sym e) ∙ by (is_utf8 text) refl
  where
    by : (b : Bool) → is_utf8 text ≡ b → cond b (Ok text) (Err (plain (output_not_text c))) ≡ Err (plain (output_not_text c))
    by true is = absurd (h (IsUtf8-from_is_utf8 text is))
    by false is = refl
