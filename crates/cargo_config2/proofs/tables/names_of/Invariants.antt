use Rattle.std.proofs.Common.{◌≡◌, ◌++◌, List, String, Global}
use Rattle.cc2_value.proofs.Built.{IsBuilt}
use Rattle.cc2_value.proofs.Copies.{named_at, name_seen}
use Rattle.cargo_config2.proofs.tables.names_of.Given as goal

-- the names done are there, and the others follow them
abbrev pub invariant-loop-name : goal.invariant-loop-name
invariant-loop-name l =
    (done : List (String Global × _)) × (l.fn.map.entries ≡ done ++ l.name-iterator) × IsBuilt named_at name_seen done l.names
