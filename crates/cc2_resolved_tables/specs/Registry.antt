-- The resolved table `registry`.
-- Cargo Reference, Configuration, `[registry]`.
use Rattle.std.specs.Prelude.{List, [], ◌∷◌, codes, option_map}
use Rattle.cc2_resolved.specs.Answers.{provider_answer, providers_answer, text_answer}
use Rattle.cc2_resolved.specs.Resolving.{settled, settled_providers}
use Rattle.cc2_resolved.specs.Rows.{Row, value}
use Rattle.cc2_resolved_tables.specs.declared.registry.RegistryConfig.{RegistryConfig}

abbrev pub registry_rows : List (Row RegistryConfig)
registry_rows =
    value (codes "default") settled (λ r. option_map text_answer r.default)
    ∷ value (codes "credential-provider") settled (λ r. option_map provider_answer r.credential_provider)
    ∷ value (codes "token") settled (λ r. option_map text_answer r.token)
    ∷ value (codes "global-credential-providers") settled_providers (λ r. providers_answer r.global_credential_providers)
    ∷ []
