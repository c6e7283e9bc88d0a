-- What is read of the text of an environment variable as a single value, and the line that says what is wanted.
use Rattle.std.specs.Prelude.{ℕ, pos, Bool, true, false, List, codes, Option, Some, None, option_map, if◌then◌else◌}
use Rattle.std.specs.Str.{bytes_eq}
use Rattle.cc2_value.specs.Cells.{Payload, number, truth, word}
use Rattle.cc2_value.specs.Decimals.{int32_text, uint32_text}
use Rattle.cc2_value.specs.Spelled.{spelling_in}

abbrev pub int32_by : List ℕ → Option Payload
int32_by text = option_map number (int32_text text)

abbrev pub int32_must : List ℕ
int32_must = codes "must be a whole number from -2147483648 to 2147483647"

abbrev pub uint32_by : List ℕ → Option Payload
uint32_by text = option_map (λ n. number (pos n)) (uint32_text text)

abbrev pub uint32_must : List ℕ
uint32_must = codes "must be a whole number from 0 to 4294967295"

abbrev pub truth_text : List ℕ → Option Bool
truth_text text = if bytes_eq text (codes "true") then Some true else if bytes_eq text (codes "false") then Some false else None

abbrev pub truth_by : List ℕ → Option Payload
truth_by text = option_map truth (truth_text text)

abbrev pub truth_must : List ℕ
truth_must = codes "must be true or false"

-- any text is one
abbrev pub text_by : List ℕ → Option Payload
text_by text = Some (word text)

-- one of these texts
abbrev pub spelled_by : List (List ℕ) → List ℕ → Option Payload
spelled_by texts text = option_map word (spelling_in texts (Some text))
