-- Global providers of credentials: an array of texts, each a provider.
use Rattle.std.specs.Prelude.{ℕ, false, List, [], ◌∷◌, ◌++◌, map, Option, Some, None, Result, Ok, Err}
use Rattle.toml.specs.Data.{Items, no_items, item, as_str, as_array}
use Rattle.cc2_value.specs.Cells.{KeyPath, Cell, Joined, Setting, Origin}
use Rattle.cc2_value.specs.Ways.{Way, Flaw, Fault, ill_typed}
use Rattle.cc2_leaf.specs.Pieces.{spaced}
use Rattle.cc2_leaf.specs.Lists.{words_at}
use Rattle.cc2_leaf.specs.Made.{faults_of}
use Rattle.cc2_leaf.specs.Providers.{provider_made, setting_of_provider}
use Rattle.cc2_leaf.specs.declared.providers.GlobalCredentialProviders.{GlobalCredentialProviders}

-- an item is a provider as a text
abbrev pub text_made : Option Origin → Option (List ℕ) → Result Setting Fault
text_made origin None = Err ill_typed
text_made origin (Some text) = provider_made false (words_at origin (spaced text))

abbrev pub made_before : Result Setting Fault → List Setting → List Setting
made_before (Ok s) ss = s ∷ ss
made_before (Err fault) ss = ss

abbrev pub each_setting : Option Origin → Items → List Setting
each_setting origin no_items = []
each_setting origin (item d ds) = made_before (text_made origin (as_str d)) (each_setting origin ds)

abbrev pub each_fault : Items → List Flaw
each_fault no_items = []
each_fault (item d ds) = faults_of (text_made None (as_str d)) ++ each_fault ds

-- one cell, or none where there is no provider
abbrev pub joined_at : List Setting → KeyPath → Option Cell
joined_at [] p = None
joined_at (s ∷ ss) [] = Some (Joined (s ∷ ss))
joined_at (s ∷ ss) (k ∷ p) = None

abbrev pub providers_in : Option Origin → Option Items → List Setting
providers_in origin None = []
providers_in origin (Some ds) = each_setting origin ds

abbrev pub providers_faults : Option Items → List Flaw
providers_faults None = ([], ill_typed) ∷ []
providers_faults (Some ds) = each_fault ds

-- an array of texts; what is wrong with one of them is wrong with the array
abbrev pub providers_way : Way
providers_way = record { cells = λ origin d p. joined_at (providers_in origin (as_array d)) p; faults = λ d. providers_faults (as_array d) }

abbrev pub settings_of_providers : GlobalCredentialProviders → List Setting
settings_of_providers g = map setting_of_provider g.providers.items

-- the cells of a table's field
abbrev pub providers_value : GlobalCredentialProviders → KeyPath → Option Cell
providers_value g p = joined_at (settings_of_providers g) p
