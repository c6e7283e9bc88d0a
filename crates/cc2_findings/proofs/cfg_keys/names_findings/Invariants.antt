use Rattle.std.proofs.Common.{◌≡◌, ◌++◌, List, map}
use Rattle.toml.proofs.Views.{Entry}
use Rattle.cc2_findings.specs.KeyFindings.{AreJudged, shown_fault}
use Rattle.cc2_findings.proofs.Names.{entry_names}
use Rattle.cc2_findings.proofs.cfg_keys.names_findings.Given as goal

-- the entries done are judged, and the others follow them
abbrev pub invariant-loop-key : goal.invariant-loop-key
invariant-loop-key l =
    (done : List Entry) × (l.fn.table.entries ≡ done ++ l.key-iterator) × AreJudged (entry_names done) (map shown_fault l.found.items)
