-- Several flags in one text, with a separator between them.
use Rattle.std.specs.Prelude.{ℕ, ◌==◌, List, [], ◌∷◌, ◌++◌, length, Result, Ok, Err, if◌then◌else◌}
use Rattle.std.specs.List.{join_with_byte}
use Rattle.cc2_error.specs.Causes.{Refusal, plain, separator_cause}
use Rattle.cc2_error.specs.declared.error.Separator.{Separator}
use Rattle.cc2_error.specs.declared.error.Separator.TheVariants as between
use Rattle.cc2_resolved.specs.Texts.{any_holds}

-- U+001F or U+0020
abbrev pub separator_byte : Separator → ℕ
separator_byte between.Unit = 31
separator_byte between.Space = 32

-- the texts from the first on that isn't empty
abbrev pub without_leading_empty : List (List ℕ) → List (List ℕ)
without_leading_empty [] = []
without_leading_empty ([] ∷ texts) = without_leading_empty texts
without_leading_empty ((b ∷ text) ∷ texts) = (b ∷ text) ∷ texts

-- the flags without their leading empty ones, with the byte between each two
abbrev pub encoding : ℕ → List (List ℕ) → List ℕ
encoding byte flags = join_with_byte byte (without_leading_empty flags)

-- a text of flags with one flag more
abbrev pub with_flag : ℕ → List ℕ → List ℕ → List ℕ
with_flag byte text flag = if length text == 0 then flag else text ++ byte ∷ flag

-- that text; refused where a flag holds the separator, since it would be read as two
abbrev pub encoded_with : Separator → List (List ℕ) → Result (List ℕ) Refusal
encoded_with separator flags =
    if any_holds (separator_byte separator) flags then Err (plain (separator_cause separator))
    else Ok (encoding (separator_byte separator) flags)
