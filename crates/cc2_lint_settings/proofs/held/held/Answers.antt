use Rattle.std.proofs.Common.{◌≡◌, ◌++◌, ℕ, List, [], arith, sym, subst}
use Rattle.std.proofs.lemmas.Grind.{common_steps}
use Rattle.std.specs.Borrow.{Bor}
use Rattle.std.specs.Vec.Iter.{into_iter_items}
use Rattle.cc2_rustc.specs.Asking.{TrueValues}
use Rattle.cc2_rustc.specs.Printed.{atoms_of}
use Rattle.cc2_value.specs.Rows.{texts_of}
use Rattle.cc2_lint_settings.specs.Asked.{paired}
use Rattle.cc2_lint_settings.proofs.Holding.{AreSoFar, at_last, one_more}
use Rattle.cc2_lint_settings.proofs.held.held.Goals as goal

pub loop-key-preserved : goal.loop-key-preserved
loop-key-preserved c later rest =
    let atoms = atoms_of c.args.set.now in
    let all = texts_of c.args.keys.items in
    let held = texts_of c.loop-key.held.items in
    let left = texts_of (into_iter_items c.next.new.self) in
    let so_far = subst (λ (keys : List (Bor (List ℕ))). AreSoFar atoms all (texts_of keys) held) c.in-Some.ensures.steps.0
    c.loop-key.invariant in
    subst (λ (keys : List (List ℕ)). TrueValues atoms (paired all) (keys ++ later)) (sym c.in_ok-keep.ensures)
    (one_more atoms all left held c.in-Some.key.now c.in_ok-is_held.is_held c.in_ok-is_held.ensures so_far later rest)

pub returns : goal.returns
returns c =
    let atoms = atoms_of c.args.set.now in
    let all = texts_of c.args.keys.items in
    let held = texts_of c.loop-key.held.items in
    let none : into_iter_items c.loop-key.key-iterator ≡ [] = grind (arith, common_steps) in
    at_last atoms all held
    (subst (λ (keys : List (Bor (List ℕ))). AreSoFar atoms all (texts_of keys) held) none c.loop-key.invariant)
