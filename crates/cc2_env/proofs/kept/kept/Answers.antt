use Rattle.std.proofs.Common.{◌≡◌, [], List, arith, refl, sym, ap, subst, ◌∙◌}
use Rattle.std.proofs.lemmas.Grind.{common_steps}
use Rattle.std.specs.Vec.Iter.{into_iter_items}
use Rattle.cc2_env.specs.Kept.{is_kept_name}
use Rattle.cc2_env.proofs.Keeping.{Entry, IsKeptSoFar, entry_kept, entry_passed, all_kept}
use Rattle.cc2_env.proofs.kept.kept.Goals as goal

pub loop-name-preserved-in-Continue-1 : goal.loop-name-preserved-in-Continue-1
loop-name-preserved-in-Continue-1 c =
    let e : Entry = (c.in-Some.name, c.in-Some.value) in
    let left : List Entry = into_iter_items c.next.new.self in
    let so_far = subst (λ (es : List Entry). IsKeptSoFar c.args.env.items es c.loop-name.map) c.in-Some.ensures.steps.0
    c.loop-name.invariant in
    entry_kept c.args.env.items left e c.loop-name.map c.put.new.map e.0 e.1
    (ap is_kept_name (sym c.as_str.ensures.value) ∙ sym c.if-is_kept.ensures) refl refl
    c.in_ok-put.ensures.updates so_far

pub loop-name-preserved : goal.loop-name-preserved
loop-name-preserved c =
    let e : Entry = (c.in-Some.name, c.in-Some.value) in
    let left : List Entry = into_iter_items c.next.new.self in
    let so_far = subst (λ (es : List Entry). IsKeptSoFar c.args.env.items es c.loop-name.map) c.in-Some.ensures.steps.0
    c.loop-name.invariant in
    entry_passed c.args.env.items left e c.loop-name.map
    (ap is_kept_name (sym c.as_str.ensures.value) ∙ sym c.if-is_kept.ensures) so_far

pub returns-clause-ok : goal.returns-clause-ok
returns-clause-ok c =
    let none : into_iter_items c.loop-name.name-iterator ≡ [] = grind (arith, common_steps) in
    all_kept c.args.env.items (into_iter_items c.loop-name.name-iterator) c.loop-name.map none c.loop-name.invariant
