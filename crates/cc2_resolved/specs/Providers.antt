-- What a provider of credentials is, once aliases are distinguished from programs.
-- Cargo Reference, Registry Authentication, and Configuration, `[credential-alias]`.
use Rattle.std.specs.Prelude.{ℕ, List, map, codes, string_bytes}
use Rattle.cc2_error.specs.Commands.{Command, command_of}
use Rattle.cc2_resolved.specs.declared.provider.CredentialProvider.{CredentialProvider}
use Rattle.cc2_resolved.specs.declared.provider.CredentialProvider.TheVariants as kind
use Rattle.cc2_resolved.specs.declared.provider.GlobalCredentialProviders.{GlobalCredentialProviders}

pub data Provider : Type 0 where
  builtin : List ℕ → Provider
  token_from_stdout : Command → Provider
  plugin : Command → Provider
  alias : List ℕ → Provider

abbrev pub provider_of : CredentialProvider → Provider
provider_of kind.CargoToken = builtin (codes "cargo:token")
provider_of kind.CargoWincred = builtin (codes "cargo:wincred")
provider_of kind.CargoMacosKeychain = builtin (codes "cargo:macos-keychain")
provider_of kind.CargoLibsecret = builtin (codes "cargo:libsecret")
provider_of (kind.CargoTokenFromStdout command) = token_from_stdout (command_of command)
provider_of (kind.Plugin command) = plugin (command_of command)
provider_of (kind.Alias name) = alias (string_bytes name)

abbrev pub providers_in : List CredentialProvider → List Provider
providers_in providers = map provider_of providers

abbrev pub providers_of : GlobalCredentialProviders → List Provider
providers_of global = providers_in global.providers.items
