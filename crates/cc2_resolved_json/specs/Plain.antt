-- The cells of what is resolved: those that files would have which set the same, each value set nowhere.
use Rattle.std.specs.Prelude.{ℕ, Bool, true, false, List, [], ◌∷◌, map, codes, Option, Some, None, option_map, if◌then◌else◌}
use Rattle.std.specs.Str.{bytes_eq}
use Rattle.cc2_error.specs.Commands.{Command}
use Rattle.cc2_value.specs.Cells as cell
use Rattle.cc2_value.specs.Cells.{Key, field, name, KeyPath, Cell, Single, Items, Joined, Entry, Payload, truth, word, Setting, Word}
use Rattle.cc2_value.specs.Shown.{leaf_at}
use Rattle.cc2_json.specs.declared.form.Form.{Form}
use Rattle.cc2_resolved.specs.Providers.{Provider, builtin, token_from_stdout, plugin, alias}
use Rattle.cc2_resolved.specs.Targets.{command_text}
use Rattle.cc2_resolved.specs.Variables.{Variable}
use Rattle.cc2_resolved.specs.Answers.{Answer, single, texts, command, provider, providers, targets, entry, variable}

-- a word that is set nowhere
abbrev pub bare_word : List ℕ → Word
bare_word text = record { text = text; origin = None }

abbrev pub bare_words : List (List ℕ) → List Word
bare_words ts = map bare_word ts

-- a value that is set nowhere
abbrev pub set_nowhere : Payload → Setting
set_nowhere payload = record { payload = payload; origin = None }

-- a program with its arguments is an array
abbrev pub command_payload : Command → Payload
command_payload c = cell.command true (bare_word c.program) (bare_words c.args)

-- the name of a provider that is built in, or of an alias, is a text; a program with its arguments is an array
abbrev pub provider_payload : Provider → Payload
provider_payload (builtin text) = cell.provider false (cell.builtin text)
provider_payload (token_from_stdout c) = cell.provider true (cell.token_from_stdout true (bare_word c.program) (bare_words c.args))
provider_payload (plugin c) = cell.provider true (cell.plugin true (bare_word c.program) (bare_words c.args))
provider_payload (alias text) = cell.provider false (cell.maybe_alias (bare_word text))

abbrev pub provider_setting : Provider → Setting
provider_setting p = set_nowhere (provider_payload p)

-- the cell of an answer; a target is the text of its spec path where it has one, else its triple
abbrev pub cell_of : Answer → Cell
cell_of (single payload) = Single (set_nowhere payload)
cell_of (texts ts) = Items (bare_words ts)
cell_of (command c) = Single (set_nowhere (command_payload c))
cell_of (provider p) = Single (provider_setting p)
cell_of (providers ps) = Joined (map provider_setting ps)
cell_of (targets ts) = Items (bare_words (map command_text ts))
cell_of entry = Entry
cell_of (variable v) = Entry

-- a variable of the table `env`, where the answer is one
abbrev pub as_variable : Option Answer → Option Variable
as_variable None = None
as_variable (Some (single payload)) = None
as_variable (Some (texts ts)) = None
as_variable (Some (command c)) = None
as_variable (Some (provider p)) = None
as_variable (Some (providers ps)) = None
as_variable (Some (targets ts)) = None
as_variable (Some entry) = None
as_variable (Some (variable v)) = Some v

-- one value, which is at the value itself
abbrev pub value_at : Payload → KeyPath → Option Cell
value_at payload p = leaf_at (λ x. Single (set_nowhere x)) payload p

-- a variable is a table: its value, whether it takes precedence over the environment's, and whether it is relative
abbrev pub variable_part : Variable → List ℕ → KeyPath → Option Cell
variable_part v k p =
    if bytes_eq (codes "value") k then value_at (word v.value) p
    else if bytes_eq (codes "force") k then value_at (truth v.force) p
    else if bytes_eq (codes "relative") k then value_at (truth v.relative) p
    else None

-- the cell at a key of a variable, or else the one that is there
abbrev pub variable_or : Option Variable → Key → KeyPath → Option Cell → Option Cell
variable_or None k p other = other
variable_or (Some v) (field k) p other = variable_part v k p
variable_or (Some v) (name k) p other = None

-- the cell at a key path of what shows these answers
abbrev pub plain_at : (KeyPath → Option Answer) → KeyPath → Option Cell
plain_at look [] = option_map cell_of (look [])
plain_at look (k ∷ p) = variable_or (as_variable (look [])) k p (plain_at (λ q. look (k ∷ q)) p)

-- values alone, with tokens or without
abbrev pub without_origins : Bool → Form
without_origins tokens = record { origins = false; tokens = tokens }
