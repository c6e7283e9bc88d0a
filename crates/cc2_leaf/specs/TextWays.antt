-- Ways of reading the text of an environment variable: the cells that it has, and its faults.
use Rattle.std.specs.Prelude.{◌≡◌, ◌⊎◌, ℕ, false, List, [], ◌∷◌, ◌++◌, map, Contains, Option, Some, None, Result, Ok, Err}
use Rattle.cc2_error.specs.Causes.{Cause, env_parse, refusal_of, plain, memory}
use Rattle.cc2_error.specs.declared.error.Error.{Error}
use Rattle.cc2_value.specs.Cells.{KeyPath, Cell, Setting, Origin, Payload}
use Rattle.cc2_value.specs.Spellings.{color_spelling, colors, color_must, when_spelling, whens, when_must, frequency_spelling, frequencies}
use Rattle.cc2_value.specs.Spellings.{frequency_must, protocol_spelling, protocols, protocol_must, vcs_spelling, all_vcs, vcs_must}
use Rattle.cc2_value.specs.Ways.{Fault, fault_cause, read_at, plain_cell}
use Rattle.cc2_value.specs.SingleTexts.{int32_by, int32_must, uint32_by, uint32_must, truth_by, truth_must, text_by, spelled_by}
use Rattle.cc2_leaf.specs.Commands.{command_made}
use Rattle.cc2_leaf.specs.Lists.{Listed, pieces, items, listed_cell, words_at}
use Rattle.cc2_leaf.specs.Made.{Making, single_of}
use Rattle.cc2_leaf.specs.ManyProviders.{made_before, joined_at}
use Rattle.cc2_leaf.specs.Pieces.{spaced, encoded}
use Rattle.cc2_leaf.specs.Providers.{provider_made}

-- what is wrong with a text
pub data TextFault : Type 0 where
  -- it isn't what this line says; and the text
  unparsed : List ℕ → List ℕ → TextFault
  -- its words make no value
  unmade : Fault → TextFault

-- how a refusal says it
abbrev pub text_cause : TextFault → Cause
text_cause (unparsed must found) = env_parse must found
text_cause (unmade fault) = fault_cause [] fault

pub record TextWay : Type 0 where
  -- the cell at a key path of a text, where it has no fault; each value in it has the origin
  pub cells : Option Origin → List ℕ → KeyPath → Option Cell
  -- what is wrong with a text
  pub faults : List ℕ → List TextFault

-- what is read shows these cells, and there is no fault
abbrev pub IsReadText : {A : Type 0} → (A → KeyPath → Option Cell) → (KeyPath → Option Cell) → List TextFault → A → Type 0
IsReadText look cells faults a = (faults ≡ []) × ((p : KeyPath) → look a p ≡ cells p)

-- memory is refused, or the error says one of the faults
abbrev pub IsTextFault : List TextFault → Error → Type 0
IsTextFault faults e = (refusal_of e ≡ plain memory) ⊎ ((f : TextFault) × Contains faults f × (refusal_of e ≡ plain (text_cause f)))

-- a fault where nothing is read
abbrev pub unread : {A : Type 0} → List ℕ → List ℕ → Option A → List TextFault
unread must text None = unparsed must text ∷ []
unread must text (Some a) = []

-- a single value, of which the line says what is wanted
abbrev pub parsed_way : List ℕ → (List ℕ → Option Payload) → TextWay
parsed_way must read = record { cells = λ origin text p. read_at (plain_cell (λ x. x) origin) (read text) p; faults = λ text. unread must text (read text) }

abbrev pub int32_text_way : TextWay
int32_text_way = parsed_way int32_must int32_by

abbrev pub uint32_text_way : TextWay
uint32_text_way = parsed_way uint32_must uint32_by

abbrev pub truth_text_way : TextWay
truth_text_way = parsed_way truth_must truth_by

abbrev pub any_text_way : TextWay
any_text_way = parsed_way [] text_by

abbrev pub color_text_way : TextWay
color_text_way = parsed_way color_must (spelled_by (map color_spelling colors))

abbrev pub when_text_way : TextWay
when_text_way = parsed_way when_must (spelled_by (map when_spelling whens))

abbrev pub frequency_text_way : TextWay
frequency_text_way = parsed_way frequency_must (spelled_by (map frequency_spelling frequencies))

abbrev pub protocol_text_way : TextWay
protocol_text_way = parsed_way protocol_must (spelled_by (map protocol_spelling protocols))

abbrev pub vcs_text_way : TextWay
vcs_text_way = parsed_way vcs_must (spelled_by (map vcs_spelling all_vcs))

-- any text, as such a list
abbrev pub listed_text_way : (List ℕ → Listed) → TextWay
listed_text_way listed = record { cells = λ origin text p. read_at (listed_cell origin) (Some (listed text)) p; faults = λ text. [] }

-- a text that isn't split
abbrev pub whole_text_way : TextWay
whole_text_way = listed_text_way (λ text. pieces (text ∷ []))

-- a text that is split at spaces
abbrev pub spaced_text_way : TextWay
spaced_text_way = listed_text_way (λ text. pieces (spaced text))

-- a text that is split at U+001F, as an array
abbrev pub encoded_text_way : TextWay
encoded_text_way = listed_text_way (λ text. items (encoded text))

abbrev pub making_faults : Result Setting Fault → List TextFault
making_faults (Ok s) = []
making_faults (Err fault) = unmade fault ∷ []

-- a text that is split at spaces, where its words make a value
abbrev pub made_text_way : Making → TextWay
made_text_way make = record { cells = λ origin text p. single_of (make false (words_at origin (spaced text))) p; faults = λ text. making_faults (make false (words_at None (spaced text))) }

abbrev pub command_text_way : TextWay
command_text_way = made_text_way command_made

abbrev pub provider_text_way : TextWay
provider_text_way = made_text_way provider_made

-- a word as a provider
abbrev pub word_made : Option Origin → List ℕ → Result Setting Fault
word_made origin text = provider_made false (record { text = text; origin = origin } ∷ [])

abbrev pub word_settings : Option Origin → List (List ℕ) → List Setting
word_settings origin [] = []
word_settings origin (text ∷ texts) = made_before (word_made origin text) (word_settings origin texts)

abbrev pub word_faults : List (List ℕ) → List TextFault
word_faults [] = []
word_faults (text ∷ texts) = making_faults (word_made None text) ++ word_faults texts

-- a text that is split at spaces, each word a provider
abbrev pub providers_text_way : TextWay
providers_text_way = record { cells = λ origin text p. joined_at (word_settings origin (spaced text)) p; faults = λ text. word_faults (spaced text) }
