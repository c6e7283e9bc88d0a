-- The text of an environment variable that is consulted, or why it has none.
use Rattle.std.specs.Prelude.{ℕ, List, ◌++◌, Result, Ok, Err, if◌then◌else◌, codes}
use Rattle.std.specs.Str.{is_utf8}
use Rattle.cc2_error.specs.Causes.{Refusal, env_not_text, plain, in_context}
use Rattle.cc2_base.specs.ShownValue.{shown_of}

-- the line that names the variable
abbrev pub variable_context : List ℕ → List ℕ
variable_context name = codes "failed to parse environment variable `" ++ (name ++ codes "`")

-- the variable is not UTF-8
abbrev pub not_text_refusal : List ℕ → List ℕ → Refusal
not_text_refusal name bytes = in_context (variable_context name) (plain (env_not_text (shown_of name bytes)))

unfoldable pub env_text_of : List ℕ → List ℕ → Result (List ℕ) Refusal
env_text_of name bytes = if is_utf8 bytes then Ok bytes else Err (not_text_refusal name bytes)
