-- The table `registry`: its keys, how each is read, and the cells that the table shows there.
-- Cargo Reference, Configuration, `[registry]`.
use Rattle.std.specs.Prelude.{List, [], ◌∷◌, codes}
use Rattle.cc2_value.specs.Shown.{Field}
use Rattle.cc2_leaf.specs.ManyProviders.{providers_way, providers_value}
use Rattle.cc2_leaf.specs.Providers.{provider_way, provider_value}
use Rattle.cc2_value.specs.Singles.{text_way, text_value}
use Rattle.cc2_tables.specs.declared.registry.RegistryConfig.{RegistryConfig}

abbrev pub registry_fields : List (Field RegistryConfig)
registry_fields =
    record { key = codes "default"; way = text_way; cells = λ r. text_value r.default }
    ∷ record { key = codes "credential-provider"; way = provider_way; cells = λ r. provider_value r.credential_provider }
    ∷ record { key = codes "token"; way = text_way; cells = λ r. text_value r.token }
    ∷ record { key = codes "global-credential-providers"; way = providers_way; cells = λ r. providers_value r.global_credential_providers }
    ∷ []
