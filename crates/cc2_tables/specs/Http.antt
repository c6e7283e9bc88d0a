-- The table `http`: its keys, how each is read, and the cells that the table shows there.
-- Cargo Reference, Configuration, `[http]`.
use Rattle.std.specs.Prelude.{List, [], ◌∷◌, codes}
use Rattle.cc2_value.specs.Shown.{Field}
use Rattle.cc2_value.specs.Singles.{truth_way, truth_value, text_way, text_value, uint32_way, counting_number}
use Rattle.cc2_tables.specs.declared.http.HttpConfig.{HttpConfig}

abbrev pub http_fields : List (Field HttpConfig)
http_fields =
    record { key = codes "debug"; way = truth_way; cells = λ h. truth_value h.debug }
    ∷ record { key = codes "proxy"; way = text_way; cells = λ h. text_value h.proxy }
    ∷ record { key = codes "timeout"; way = uint32_way; cells = λ h. counting_number h.timeout }
    ∷ record { key = codes "cainfo"; way = text_way; cells = λ h. text_value h.cainfo }
    ∷ record { key = codes "check-revoke"; way = truth_way; cells = λ h. truth_value h.check_revoke }
    ∷ record { key = codes "low-speed-limit"; way = uint32_way; cells = λ h. counting_number h.low_speed_limit }
    ∷ record { key = codes "multiplexing"; way = truth_way; cells = λ h. truth_value h.multiplexing }
    ∷ record { key = codes "user-agent"; way = text_way; cells = λ h. text_value h.user_agent }
    ∷ []
