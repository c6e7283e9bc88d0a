-- A resolved registry of the table `registries`.
-- Cargo Reference, Configuration, `[registries]`.
use Rattle.std.specs.Prelude.{List, [], ◌∷◌, codes, option_map}
use Rattle.cc2_value.specs.Spellings.{protocol_spelling}
use Rattle.cc2_resolved.specs.Answers.{provider_answer, spelled_answer, text_answer}
use Rattle.cc2_resolved.specs.Resolving.{settled}
use Rattle.cc2_resolved.specs.Rows.{Row, value}
use Rattle.cc2_resolved_tables.specs.declared.registries.RegistriesConfigValue.{RegistriesConfigValue}

abbrev pub registries_rows : List (Row RegistriesConfigValue)
registries_rows =
    value (codes "index") settled (λ r. option_map text_answer r.index)
    ∷ value (codes "token") settled (λ r. option_map text_answer r.token)
    ∷ value (codes "credential-provider") settled (λ r. option_map provider_answer r.credential_provider)
    ∷ value (codes "protocol") settled (λ r. option_map (spelled_answer protocol_spelling) r.protocol)
    ∷ []
