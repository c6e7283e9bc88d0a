use Rattle.std.proofs.Common.{List, ℕ, [], ◌∷◌, sym, subst}
use Rattle.cc2_value.specs.Ways.{Flaw, IsFaultBehind}
use Rattle.cc2_leaf.proofs.Each.{fault_at}
use Rattle.cc2_leaf.proofs.providers.read_each.Goals as goal

pub returns-in-Err-clause-refused : goal.returns-in-Err-clause-refused
returns-in-Err-clause-refused c =
    let keys : List (List ℕ) = c.args.key.now ∷ [] in
    subst (λ (flaws : List Flaw). IsFaultBehind keys flaws c.in-Err.error) (sym c.loop-item.invariant.faults)
    (fault_at keys c.in-Err.error c.args.items.now c.loop-item.item-index c.item-item.result
    c.loop-item-test.true c.item-item.is c.in-Err.ensures.refused)
