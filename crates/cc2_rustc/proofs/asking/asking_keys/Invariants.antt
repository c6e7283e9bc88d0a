use Rattle.std.specs.Prelude.{map, string_bytes}
use Rattle.cc2_rustc.specs.Asking.{entries_by_text, shown_asking}
use Rattle.cc2_rustc.proofs.Gathering.{IsGathered}
use Rattle.cc2_rustc.proofs.asking.asking_keys.Given as goal

abbrev pub invariant-loop-key : goal.invariant-loop-key
invariant-loop-key g l =
    IsGathered (entries_by_text l.table) (map (λ e. (string_bytes e.0, e.1)) l.key-iterator)
    (map shown_asking l.asking.items)
