-- The resolved table `http`. The file of certificate authorities stays a text.
-- Cargo Reference, Configuration, `[http]`.
use Rattle.std.specs.Prelude.{List, [], ◌∷◌, codes, option_map}
use Rattle.cc2_resolved.specs.Answers.{counting_answer, text_answer, truth_answer}
use Rattle.cc2_resolved.specs.Resolving.{settled}
use Rattle.cc2_resolved.specs.Rows.{Row, value}
use Rattle.cc2_resolved_tables.specs.declared.http.HttpConfig.{HttpConfig}

abbrev pub http_rows : List (Row HttpConfig)
http_rows =
    value (codes "debug") settled (λ h. option_map truth_answer h.debug)
    ∷ value (codes "proxy") settled (λ h. option_map text_answer h.proxy)
    ∷ value (codes "timeout") settled (λ h. option_map counting_answer h.timeout)
    ∷ value (codes "cainfo") settled (λ h. option_map text_answer h.cainfo)
    ∷ value (codes "check-revoke") settled (λ h. option_map truth_answer h.check_revoke)
    ∷ value (codes "low-speed-limit") settled (λ h. option_map counting_answer h.low_speed_limit)
    ∷ value (codes "multiplexing") settled (λ h. option_map truth_answer h.multiplexing)
    ∷ value (codes "user-agent") settled (λ h. option_map text_answer h.user_agent)
    ∷ []
