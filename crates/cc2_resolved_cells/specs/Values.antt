-- What is written of an answer.
use Rattle.std.specs.Prelude.{ℕ, ℤ, Bool, List, ◌∷◌, map, codes}
use Rattle.cc2_error.specs.Commands.{Command}
use Rattle.cc2_value.specs.Cells as cell
use Rattle.cc2_value.specs.Cells.{Payload, Word}
use Rattle.cc2_resolved.specs.Answers as answer
use Rattle.cc2_resolved.specs.Answers.{Answer, single, texts, command, provider, providers, targets, entry}
use Rattle.cc2_resolved.specs.Providers.{Provider, builtin, token_from_stdout, plugin, alias}
use Rattle.cc2_resolved.specs.Targets.{command_text}
use Rattle.cc2_resolved.specs.Variables.{Variable}

-- a text, or a list of texts
pub data ValueItem : Type 0 where
  text : List ℕ → ValueItem
  list : List (List ℕ) → ValueItem

pub data Value : Type 0 where
  number : ℤ → Value
  truth : Bool → Value
  one : ValueItem → Value
  several : List ValueItem → Value
  -- there is a table here, as a member of a map
  place : Value
  variable : Variable → Value

abbrev pub command_words : Command → List (List ℕ)
command_words c = c.program ∷ c.args

abbrev pub provider_item : Provider → ValueItem
provider_item (builtin t) = text t
provider_item (token_from_stdout c) = list (codes "cargo:token-from-stdout" ∷ command_words c)
provider_item (plugin c) = list (command_words c)
provider_item (alias t) = text t

abbrev pub texts_of_words : Word → List Word → List (List ℕ)
texts_of_words w ws = w.text ∷ map (λ v. v.text) ws

-- resolving leaves no provider like these
abbrev pub unresolved_item : cell.Provider → ValueItem
unresolved_item (cell.builtin t) = text t
unresolved_item (cell.token_from_stdout array w ws) = list (codes "cargo:token-from-stdout" ∷ texts_of_words w ws)
unresolved_item (cell.plugin array w ws) = list (texts_of_words w ws)
unresolved_item (cell.maybe_alias w) = text w.text

abbrev pub payload_value : Payload → Value
payload_value (cell.number z) = number z
payload_value (cell.truth b) = truth b
payload_value (cell.word t) = one (text t)
payload_value (cell.command array w ws) = one (list (texts_of_words w ws))
payload_value (cell.provider array p) = one (unresolved_item p)

-- a target is the text as Cargo takes it
abbrev pub written_value : Answer → Value
written_value (single payload) = payload_value payload
written_value (texts ts) = one (list ts)
written_value (command c) = one (list (command_words c))
written_value (provider p) = one (provider_item p)
written_value (providers ps) = several (map provider_item ps)
written_value (targets ts) = one (list (map command_text ts))
written_value entry = place
written_value (answer.variable v) = variable v
