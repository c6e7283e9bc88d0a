use Rattle.std.proofs.Common.{◌≡◌, sym, subst, arith, map}
use Rattle.std.proofs.lemmas.Grind.{common_steps}
use Rattle.cc2_rustc.specs.Asking.{shown_asking, true_values, TrueValues}
use Rattle.cc2_rustc.specs.Printed.{atoms_of}
use Rattle.cc2_rustc.proofs.TrueKeys.{true_values-are}
use Rattle.cc2_rustc.proofs.asking.true_values.Goals as goal

pub returns-clause-keys : goal.returns-clause-keys
returns-clause-keys g c = λ entries h.
    let atoms = atoms_of c.args.set.now in
    let asking = map shown_asking c.args.asking.now in
    let values = map (λ v. v.now) c.loop-asked.values.items in
    let value : values ≡ true_values atoms asking = grind (arith, common_steps) in
    subst (TrueValues atoms entries) (sym value) (true_values-are atoms entries asking h)
