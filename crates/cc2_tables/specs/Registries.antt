-- A registry of the table `registries`: its keys, how each is read, and the cells that the table shows there.
-- Cargo Reference, Configuration, `[registries]`.
use Rattle.std.specs.Prelude.{List, [], ◌∷◌, codes}
use Rattle.cc2_value.specs.Shown.{Field}
use Rattle.cc2_leaf.specs.Providers.{provider_way, provider_value}
use Rattle.cc2_value.specs.Singles.{text_way, text_value}
use Rattle.cc2_value.specs.Spelled.{protocol_way, protocol_value}
use Rattle.cc2_tables.specs.declared.registries.RegistriesConfigValue.{RegistriesConfigValue}

abbrev pub registries_fields : List (Field RegistriesConfigValue)
registries_fields =
    record { key = codes "index"; way = text_way; cells = λ r. text_value r.index }
    ∷ record { key = codes "token"; way = text_way; cells = λ r. text_value r.token }
    ∷ record { key = codes "credential-provider"; way = provider_way; cells = λ r. provider_value r.credential_provider }
    ∷ record { key = codes "protocol"; way = protocol_way; cells = λ r. protocol_value r.protocol }
    ∷ []
