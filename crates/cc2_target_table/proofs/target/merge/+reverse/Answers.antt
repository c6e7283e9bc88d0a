use Rattle.std.proofs.Common.{◌≡◌, [], ◌∷◌, ◌++◌, String, Global, refl, sym}
use Rattle.std.proofs.Common.{arith, ap, subst, ◌∙◌, append_assoc}
use Rattle.std.proofs.lemmas.List.{append-nil, nil_from_length}
use Rattle.std.proofs.lemmas.Grind.{common_steps}
use Rattle.cc2_value.specs.Gathered.{IsReversed, FieldsReversed}
use Rattle.cc2_value.specs.Shown.{map_at}
use Rattle.cc2_value.proofs.Built.{built_more}
use Rattle.cc2_value.proofs.GatheredMaps.{empty_reversed}
use Rattle.cc2_target_table.specs.declared.target.Node.{Node}
use Rattle.cc2_target_table.specs.declared.target.TargetConfig.{TargetConfig}
use Rattle.cc2_target_table.specs.Target.{target_fields, node_at}
use Rattle.cc2_target_table.proofs.Targets.{R, reversed_seen, nested_reversed, table_node, target_reversed}
use Rattle.cc2_target_table.proofs.target.merge.+reverse.Goals as goal

pub reversed_nested-returns-then-is_empty : goal.reversed_nested-returns-then-is_empty
reversed_nested-returns-then-is_empty t c =
    empty_reversed node_at c.args.nested (nil_from_length c.args.nested.entries (c.is_empty.ensures.0 c.if-is_empty.true))

pub reversed_nested-loop-key-preserved : goal.reversed_nested-loop-key-preserved
reversed_nested-loop-key-preserved t c =
    let (done, whole, so_far) = c.loop-key.invariant in
    let e : String Global × Node = (c.in-Some.key, c.in-Some.node) in
    let left = c.next.new.self in
    let iter : c.loop-key.key-iterator ≡ e ∷ left = grind (arith, common_steps) in
    let all : c.args.nested.entries ≡ done ++ e ∷ left = whole ∙ ap (λ es. done ++ es) iter in
    let sorted = rw all at c.into_iter-key-iterator.ensures.into_iter_gives.5 in (
      done ++ e ∷ [],
      all ∙ sym (append_assoc done (e ∷ []) left),
      built_more node_at reversed_seen done e left c.loop-key.reversed c.insert.new.nested
          c.in-Some.key c.in_ok-turned.turned sorted refl c.in_ok-insert.ensures
          (λ p. sym (c.in_ok-turned.ensures p)) so_far,
    )

pub reversed_nested-returns : goal.reversed_nested-returns
reversed_nested-returns t c =
    let (done, whole, so_far) = c.loop-key.invariant in
    let iter : c.loop-key.key-iterator ≡ [] = grind (arith, common_steps) in
    let all : c.args.nested.entries ≡ done = whole ∙ ap (λ es. done ++ es) iter ∙ append-nil done in
    nested_reversed c.args.nested c.loop-key.reversed (rw all so_far)

pub reversed_node-returns : goal.reversed_node-returns
reversed_node-returns t c =
    let was = c.in-Table.table.value in
    let own = subst (λ (x : TargetConfig). FieldsReversed target_fields x c.reverse_own.new.table)
    c.deref_mut.ensures.value c.in_ok-nested.ensures.fields in
    let fields = subst (λ (x : TargetConfig). FieldsReversed target_fields was x)
    (sym c.deref_mut-2.ensures.value) own in
    let below = subst (λ (x : TargetConfig). IsReversed (map_at node_at) x.nested c.in_ok-turned.field-0)
    c.deref_mut.ensures.value (rw c.in_ok-nested.ensures.nested at c.in_ok-turned.ensures) in
    let turned = target_reversed was _ fields below in λ p.
    table_node _ p ∙ turned p ∙ ap R (sym (table_node c.in-Table.table p))
    ∙ ap (λ (n : Node). R (node_at n p)) (sym c.in-Table.is)
