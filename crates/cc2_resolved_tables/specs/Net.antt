-- The resolved table `net`.
-- Cargo Reference, Configuration, `[net]`.
use Rattle.std.specs.Prelude.{List, [], ◌∷◌, codes, option_map}
use Rattle.cc2_resolved.specs.Answers.{counting_answer, truth_answer}
use Rattle.cc2_resolved.specs.Resolving.{settled}
use Rattle.cc2_resolved.specs.Rows.{Row, value}
use Rattle.cc2_resolved_tables.specs.declared.net.NetConfig.{NetConfig}

abbrev pub net_rows : List (Row NetConfig)
net_rows =
    value (codes "retry") settled (λ n. option_map counting_answer n.retry)
    ∷ value (codes "git-fetch-with-cli") settled (λ n. option_map truth_answer n.git_fetch_with_cli)
    ∷ value (codes "offline") settled (λ n. option_map truth_answer n.offline)
    ∷ []
