-- What resolution makes of a cell.
-- Cargo Reference, Configuration, config-relative paths, executable paths with arguments, and
-- Registry Authentication, credential aliases.
use Rattle.std.specs.Prelude.{ℕ, List, [], ◌∷◌, map, Option, Some, None, Result, Ok, Err, if◌then◌else◌}
use Rattle.cc2_error.specs.Causes.{Refusal, plain, empty_command}
use Rattle.cc2_error.specs.Commands.{Command}
use Rattle.cc2_value.specs.Cells as cell
use Rattle.cc2_value.specs.Cells.{Cell, Single, Text, Items, Joined, Entry, Undecoded, Marks, Word, Origin, Payload, Setting}
use Rattle.cc2_leaf.specs.Pieces.{spaced}
use Rattle.cc2_resolved.specs.Providers.{Provider, builtin, token_from_stdout, plugin, alias}
use Rattle.cc2_resolved.specs.Answers.{Answer, single, texts, command, provider, targets, listed_providers}
use Rattle.cc2_resolved.specs.Roots.{resolved}
use Rattle.cc2_resolved.specs.Sites.{Site}
use Rattle.cc2_resolved.specs.ResolvedTargets.{target_for}
use Rattle.cc2_resolved.specs.Turns.{map_ok, in_turn}
use Rattle.cc2_resolved.specs.declared.roots.Meant.{Meant}
use Rattle.cc2_resolved.specs.declared.roots.Meant.TheVariants.{Program}

abbrev pub texts_of : List Word → List (List ℕ)
texts_of ws = map (λ w. w.text) ws

-- a program, and its arguments as they are
abbrev pub command_for : List ℕ → Word → List (List ℕ) → Result Command Refusal
command_for directory path args = map_ok (λ program. record { program = program; args = args }) (resolved Program directory path)

-- the first piece of a text is the program
abbrev pub plugin_for : List ℕ → Option Origin → List (List ℕ) → Result Provider Refusal
plugin_for directory origin [] = Err (plain empty_command)
plugin_for directory origin (path ∷ args) = map_ok plugin (command_for directory (record { text = path; origin = origin }) args)

-- one word is an alias where there is one of that name, else a plugin, split at spaces
abbrev pub provider_for : Site → cell.Provider → Result Provider Refusal
provider_for site (cell.builtin name) = Ok (builtin name)
provider_for site (cell.token_from_stdout array path args) = map_ok token_from_stdout (command_for site.directory path (texts_of args))
provider_for site (cell.plugin array path args) = map_ok plugin (command_for site.directory path (texts_of args))
provider_for site (cell.maybe_alias w) = if site.is_alias w.text then Ok (alias w.text) else plugin_for site.directory w.origin (spaced w.text)

-- a command's program and a provider are resolved, all else stays
abbrev pub payload_for : Site → Payload → Result Answer Refusal
payload_for site (cell.number n) = Ok (single (cell.number n))
payload_for site (cell.truth b) = Ok (single (cell.truth b))
payload_for site (cell.word text) = Ok (single (cell.word text))
payload_for site (cell.command array path args) = map_ok command (command_for site.directory path (texts_of args))
payload_for site (cell.provider array p) = map_ok provider (provider_for site p)

abbrev pub settled : Site → Cell → Result (Option Answer) Refusal
settled site (Single s) = map_ok Some (payload_for site s.payload)
settled site (Text ws) = Ok (Some (texts (texts_of ws)))
settled site (Items ws) = Ok (Some (texts (texts_of ws)))
settled site _ = Ok None

abbrev pub text_for : Meant → Site → Option Origin → Payload → Result Answer Refusal
text_for meant site origin (cell.word text) = map_ok (λ t. single (cell.word t)) (resolved meant site.directory (record { text = text; origin = origin }))
text_for meant site origin other = payload_for site other

-- a text that is meant so
abbrev pub meant_as : Meant → Site → Cell → Result (Option Answer) Refusal
meant_as meant site (Single s) = map_ok Some (text_for meant site s.origin s.payload)
meant_as meant site other = settled site other

-- a text or an array whose texts are targets
abbrev pub settled_targets : Site → Cell → Result (Option Answer) Refusal
settled_targets site (Text ws) = map_ok (λ ts. Some (targets ts)) (in_turn (target_for site.directory) ws)
settled_targets site (Items ws) = map_ok (λ ts. Some (targets ts)) (in_turn (target_for site.directory) ws)
settled_targets site _ = Ok None

-- a joined cell has providers alone
abbrev pub provider_in : Site → Payload → Result Provider Refusal
provider_in site (cell.provider array p) = provider_for site p
provider_in site other = Err (plain empty_command)

-- providers, one after the other
abbrev pub settled_providers : Site → Cell → Result (Option Answer) Refusal
settled_providers site (Joined ss) = map_ok listed_providers (in_turn (λ s. provider_in site s.payload) ss)
settled_providers site _ = Ok None
