-- What an environment variable sets.
use Rattle.std.specs.Prelude.{ℕ, Bool, eqb, if◌then◌else◌, List, Option, Some, None, Result, Ok, Err, String, Vec, string_bytes}
use Rattle.std.specs.List.{list_any, starts_with}
use Rattle.std.specs.Str.{is_utf8}
use Rattle.cc2_error.specs.Causes.{Refusal}
use Rattle.cc2_base.specs.EnvTexts.{not_text_refusal}
use Rattle.cc2_base.specs.Machines.{variable_of}
use Rattle.cc2_base.specs.declared.machine.Machine.{Machine}
use Rattle.cc2_cargo_settings.specs.declared.variable.Given.{Given as CodeGiven}
use Rattle.cc2_cargo_settings.specs.declared.variable.Given.TheVariants as code

-- what a variable gives: nothing, a text, or bytes that aren't UTF-8
pub data Given : Type 0 where
  unset : Given
  set_to : List ℕ → Given
  not_utf8 : List ℕ → Given

abbrev pub given_shown : CodeGiven → Given
given_shown code.Unset = unset
given_shown (code.Text t) = set_to t.now
given_shown (code.NotUtf8 bytes) = not_utf8 bytes.now

abbrev pub given_of : Option (List ℕ) → Given
given_of None = unset
given_of (Some bytes) = if is_utf8 bytes then set_to bytes else not_utf8 bytes

abbrev pub given : Machine → List ℕ → Given
given machine name = given_of (variable_of machine name)

abbrev pub text_given : Given → Option (List ℕ)
text_given unset = None
text_given (set_to t) = Some t
text_given (not_utf8 bytes) = None

-- the text of a variable; none where it isn't UTF-8
abbrev pub variable_text : Machine → List ℕ → Option (List ℕ)
variable_text machine name = text_given (given machine name)

-- what is set beside a variable that isn't UTF-8; an error where nothing is
abbrev pub or_not_utf8 : {A : Type 0} → List ℕ → List ℕ → Option A → Result (Option A) Refusal
or_not_utf8 name bytes None = Err (not_text_refusal name bytes)
or_not_utf8 name bytes (Some a) = Ok (Some a)

-- whether the name of an entry begins so
abbrev pub begins : {A B : Type 0} → List ℕ → String A × Vec ℕ B → Bool
begins front entry = starts_with eqb (string_bytes entry.0) front

-- whether the name of a variable begins so
abbrev pub is_any_below : Machine → List ℕ → Bool
is_any_below machine front = list_any (begins front) machine.env.items
