-- The table `net`: its keys, how each is read, and the cells that the table shows there.
-- Cargo Reference, Configuration, `[net]`.
use Rattle.std.specs.Prelude.{List, [], ◌∷◌, codes}
use Rattle.cc2_value.specs.Shown.{Field}
use Rattle.cc2_value.specs.Singles.{uint32_way, counting_number, truth_way, truth_value}
use Rattle.cc2_tables.specs.declared.net.NetConfig.{NetConfig}

abbrev pub net_fields : List (Field NetConfig)
net_fields =
    record { key = codes "retry"; way = uint32_way; cells = λ n. counting_number n.retry }
    ∷ record { key = codes "git-fetch-with-cli"; way = truth_way; cells = λ n. truth_value n.git_fetch_with_cli }
    ∷ record { key = codes "offline"; way = truth_way; cells = λ n. truth_value n.offline }
    ∷ []
