-- What standard error gets.
use Rattle.std.proofs.Common.{◌≡◌, ℕ, Bool, true, false, List, [], Option, Some, None, IsUtf8, ap, codes, cond, refl, sym}
use Rattle.std.proofs.lemmas.List.{append-nil}
use Rattle.std.proofs.lemmas.Str.{is_utf8-from_IsUtf8, IsUtf8-from_is_utf8}
use Rattle.std.specs.Io.KnownBytes.{Appends}
use Rattle.std.specs.Str.{chars, is_utf8}
use lib.Utf8.{encode}
use Rattle.cc2_program.specs.Streams.{on_terminal}
use Rattle.cc2_reports.specs.Characters.{visible_text}

pub of_text : (t : List ℕ) → IsUtf8 t → on_terminal t ≡ visible_text true t
of_text t is = ap (λ b. cond b (visible_text true t) t) (is_utf8-from_IsUtf8 t is)

pub of_bytes : (t : List ℕ) → (IsUtf8 t → ⊥) → on_terminal t ≡ t
of_bytes t fails = by (is_utf8 t) refl
  where
    by : (b : Bool) → is_utf8 t ≡ b → cond b (visible_text true t) t ≡ t
    by true e = absurd (fails (IsUtf8-from_is_utf8 t e))
    by false e = refl

pub nothing_appended : (contents : Option (List ℕ)) → Appends contents contents []
nothing_appended None = tt
nothing_appended (Some xs) = sym (append-nil xs)

-- the error that memory ran out has no character that is written by its number
pub memory_is_plain : on_terminal (codes "error: out of memory\n") ≡ codes "error: out of memory\n"
unfolding is_utf8 chars encode
memory_is_plain = refl
