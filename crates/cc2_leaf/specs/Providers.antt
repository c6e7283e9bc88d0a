-- Providers of credentials, and what their words mean.
-- Cargo Reference, Registry Authentication, built-in providers and plugins.
use Rattle.std.specs.Prelude.{ℕ, Bool, List, [], ◌∷◌, codes, Option, None, Result, Ok, Err, if◌then◌else◌}
use Rattle.std.specs.Str.{bytes_eq}
use Rattle.std.specs.List.{list_any}
use Rattle.cc2_value.specs.Cells.{KeyPath, Cell, Setting, Word, Origin, Provider, builtin, token_from_stdout, plugin, maybe_alias, provider}
use Rattle.cc2_value.specs.Shown.{single_at, option_at}
use Rattle.cc2_value.specs.Values.{word_of, words_of}
use Rattle.cc2_value.specs.Ways.{Way, Fault, no_word, extra_words, no_command}
use Rattle.cc2_leaf.specs.Lists.{is_array}
use Rattle.cc2_leaf.specs.Made.{Making, made_way}
use Rattle.cc2_leaf.specs.declared.provider.CredentialProvider.{CredentialProvider}
use Rattle.cc2_leaf.specs.declared.provider.CredentialProviderKind.{CredentialProviderKind}
use Rattle.cc2_leaf.specs.declared.provider.CredentialProviderKind.TheVariants as kind

-- the built-in providers that take no argument
abbrev pub builtin_names : List (List ℕ)
builtin_names = codes "cargo:token" ∷ codes "cargo:wincred" ∷ codes "cargo:macos-keychain" ∷ codes "cargo:libsecret" ∷ []

abbrev pub is_builtin : List ℕ → Bool
is_builtin name = list_any (bytes_eq name) builtin_names

abbrev pub is_from_stdout : List ℕ → Bool
is_from_stdout name = bytes_eq name (codes "cargo:token-from-stdout")

abbrev pub builtin_made : List ℕ → List Word → Result Provider Fault
builtin_made name [] = Ok (builtin name)
builtin_made name (arg ∷ args) = Err (extra_words name)

-- the words after the name are the command
abbrev pub stdout_made : Bool → List Word → Result Provider Fault
stdout_made array [] = Err no_command
stdout_made array (path ∷ args) = Ok (token_from_stdout array path args)

-- a name that isn't built in may be an alias where it is alone
abbrev pub other_made : Bool → Word → List Word → Result Provider Fault
other_made array name [] = Ok (maybe_alias name)
other_made array name (arg ∷ args) = Ok (plugin array name (arg ∷ args))

abbrev pub other_named : Bool → Word → List Word → Result Provider Fault
other_named array name args = if is_from_stdout name.text then stdout_made array args else other_made array name args

-- what a name and its arguments are, which came as an array or as a text
abbrev pub named : Bool → Word → List Word → Result Provider Fault
named array name args = if is_builtin name.text then builtin_made name.text args else other_named array name args

-- where the words that are kept were set
abbrev pub provider_origin : Provider → Option Origin
provider_origin (builtin name) = None
provider_origin (token_from_stdout array path args) = path.origin
provider_origin (plugin array path args) = path.origin
provider_origin (maybe_alias name) = name.origin

abbrev pub provider_setting : Bool → Provider → Setting
provider_setting array p = record { payload = provider array p; origin = provider_origin p }

abbrev pub setting_made : Bool → Result Provider Fault → Result Setting Fault
setting_made array (Ok p) = Ok (provider_setting array p)
setting_made array (Err fault) = Err fault

-- the first word is the name, the others are its arguments
abbrev pub provider_made : Making
provider_made array [] = Err no_word
provider_made array (name ∷ args) = setting_made array (named array name args)

abbrev pub provider_way : Way
provider_way = made_way provider_made

-- what a provider is
abbrev pub provider_of : CredentialProviderKind → Provider
provider_of kind.CargoToken = builtin (codes "cargo:token")
provider_of kind.CargoWincred = builtin (codes "cargo:wincred")
provider_of kind.CargoMacosKeychain = builtin (codes "cargo:macos-keychain")
provider_of kind.CargoLibsecret = builtin (codes "cargo:libsecret")
provider_of (kind.CargoTokenFromStdout c) = token_from_stdout (is_array c.repr) (word_of c.path.value) (words_of c.args.items)
provider_of (kind.Plugin c) = plugin (is_array c.repr) (word_of c.path.value) (words_of c.args.items)
provider_of (kind.MaybeAlias name) = maybe_alias (word_of name)

abbrev pub setting_of_provider : CredentialProvider → Setting
setting_of_provider c = provider_setting (is_array c.repr) (provider_of c.kind)

-- the cells of a table's field
abbrev pub provider_value : Option CredentialProvider → KeyPath → Option Cell
provider_value c p = option_at (single_at setting_of_provider) c p
