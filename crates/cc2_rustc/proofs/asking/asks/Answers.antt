use Rattle.std.proofs.Common.{map}
use Rattle.std.proofs.lemmas.List.{length-map}
use Rattle.cc2_rustc.specs.Asking.{shown_asking}
use Rattle.cc2_rustc.proofs.TrueKeys.{asks-decided}
use Rattle.cc2_rustc.proofs.asking.asks.Goals as goal

pub returns : goal.returns
returns g c = λ entries h.
    let asking = c.args.asking.now in
    rw (c.is_empty.ensures, ← length-map asking shown_asking) (asks-decided entries (map shown_asking asking) h)
