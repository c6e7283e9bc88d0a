use Rattle.std.proofs.Common.{◌≡◌, Option, Some, None, Ok, [], ◌∷◌, ◌++◌, String, Global, string_bytes}
use Rattle.std.proofs.Common.{arith, refl, subst, sym, ap, ◌∙◌, append_assoc}
use Rattle.std.proofs.lemmas.List.{append-nil, nil_from_length}
use Rattle.std.proofs.lemmas.Grind.{common_steps}
use Rattle.std.specs.Box.{with_value}
use Rattle.std.specs.BTreeMap.{get_by_text}
use Rattle.std.specs.Option.{option_copied_mut}
use Rattle.cc2_value.specs.Cells.{Cell}
use Rattle.cc2_value.proofs.Found.{after_insert, after_write}
use Rattle.cc2_value.proofs.GatheredMaps.{entry_gathered, entry_met, entry_new, entry_refused}
use Rattle.cc2_value.proofs.GatheredMaps.{AreSoFar, gathered_start}
use Rattle.cc2_value.proofs.GatheredMaps.{gathered_more, gathered_map, ungathered_here}
use Rattle.cc2_value.proofs.TwoCells.{both}
use Rattle.cc2_target_table.specs.declared.target.Node.{Node}
use Rattle.cc2_target_table.specs.declared.target.TargetConfig.{TargetConfig}
use Rattle.cc2_target_table.specs.Target.{target_at, node_at}
use Rattle.cc2_target_table.proofs.Targets.{target_gathered, target_refused, target_field_refused, R}
use Rattle.cc2_target_table.proofs.Targets.{table_node, tables_refused}
use Rattle.cc2_target_table.proofs.target.merge.+gather.Goals as goal

pub gather_tables-returns-in-None-clause-refused : goal.gather_tables-returns-in-None-clause-refused
gather_tables-returns-in-None-clause-refused t c same =
    let told = c.in-None.ensures.refused in
    (told.0, told.1, target_field_refused c.args.high.now c.args.low.now told.0 told.2)

pub gather_tables-returns-in-Some-clause-ok : goal.gather_tables-returns-in-Some-clause-ok
gather_tables-returns-in-Some-clause-ok t c merged =
    target_gathered c.args.high.now c.args.low.now _ c.in-Some.ensures.fields
    (rw (c.in-Some.ensures.nested, c.in-Some.ensures.weaker) at (c.gather_nested.ensures.ok merged))

pub gather_tables-returns-in-Some-clause-refused : goal.gather_tables-returns-in-Some-clause-refused
gather_tables-returns-in-Some-clause-refused t c unmerged =
    let told = rw (c.in-Some.ensures.nested, c.in-Some.ensures.weaker) at (c.gather_nested.ensures.refused unmerged) in
    (told.0, told.1, target_refused c.args.high.now c.args.low.now told.0 told.2)

pub gather_nested-returns-then-not-gather_entry-clause-refused :
    goal.gather_nested-returns-then-not-gather_entry-clause-refused
gather_nested-returns-then-not-gather_entry-clause-refused t c same =
    let (done, whole, so_far) = c.loop-key.invariant in
    let e : String Global × Node = (c.in-Some.key, c.in-Some.weaker) in
    let iter : c.loop-key.key-iterator ≡ e ∷ c.next.new.self = grind (arith, common_steps) in
    let all : c.args.low.entries ≡ done ++ e ∷ c.next.new.self = whole ∙ ap (λ es. done ++ es) iter in
    let sorted = rw all at c.into_iter-key-iterator.ensures.into_iter_gives.5 in
    let told = c.if-not-gather_entry.ensures.refused refl in (
      told.0,
      told.1,
      ungathered_here node_at done e c.next.new.self c.args.high.now c.args.low
          c.loop-key.high told.0 all sorted so_far told.2,
    )

pub gather_nested-returns-then-is_empty-clause-ok : goal.gather_nested-returns-then-is_empty-clause-ok
gather_nested-returns-then-is_empty-clause-ok t c same =
    let high = c.args.high.now in
    let none : c.args.low.entries ≡ [] = nil_from_length c.args.low.entries (c.is_empty.ensures.0 c.if-is_empty.true) in
    gathered_map node_at high c.args.low high
    (subst (λ es. AreSoFar node_at es high high) (sym none) (gathered_start node_at high))

pub gather_nested-loop-key-init : goal.gather_nested-loop-key-init
gather_nested-loop-key-init t c = ([], grind (arith, common_steps), gathered_start node_at c.args.high.now)

pub gather_nested-loop-key-preserved : goal.gather_nested-loop-key-preserved
gather_nested-loop-key-preserved t c =
    let (done, whole, so_far) = c.loop-key.invariant in
    let e : String Global × Node = (c.in-Some.key, c.in-Some.weaker) in
    let iter : c.loop-key.key-iterator ≡ e ∷ c.next.new.self = grind (arith, common_steps) in
    let all : c.args.low.entries ≡ done ++ e ∷ c.next.new.self = whole ∙ ap (λ es. done ++ es) iter in
    let sorted = rw all at c.into_iter-key-iterator.ensures.into_iter_gives.5 in (
      done ++ e ∷ [],
      all ∙ sym (append_assoc done (e ∷ []) c.next.new.self),
      gathered_more node_at done e c.next.new.self c.args.high.now c.loop-key.high c.gather_entry.new.high
          sorted (c.if-not-gather_entry.ensures.ok refl) so_far,
    )

pub gather_nested-returns-clause-ok : goal.gather_nested-returns-clause-ok
gather_nested-returns-clause-ok t c same =
    let (done, whole, so_far) = c.loop-key.invariant in
    let iter : c.loop-key.key-iterator ≡ [] = grind (arith, common_steps) in
    let all : c.args.low.entries ≡ done = whole ∙ ap (λ es. done ++ es) iter ∙ append-nil done in
    gathered_map node_at c.args.high.now c.args.low c.loop-key.high (rw all so_far)

pub gather_entry-returns-in-None-clause-ok : goal.gather_entry-returns-in-None-clause-ok
gather_entry-returns-in-None-clause-ok t c put =
    let m = c.args.high.now in
    let key = string_bytes c.args.key in
    let got : get_by_text m key ≡ None = sym (rw c.as_str.ensures.value at c.get_mut.ensures.value) ∙
    ap option_copied_mut c.in-None.is in
    let updates = rw c.get_mut.follows.holds-at-none at (c.insert_or_tell.ensures.ok put) in
    entry_gathered node_at m c.insert_or_tell.new.nested key c.args.low updates.0
    (after_insert c.args.key updates.0 m c.insert_or_tell.new.nested updates.2)
    (entry_new node_at (get_by_text m key) c.args.low updates.0 got updates.1)

pub gather_entry-returns-then-gather_nodes-clause-ok : goal.gather_entry-returns-then-gather_nodes-clause-ok
gather_entry-returns-then-gather_nodes-clause-ok t c same =
    let m = c.args.high.now in
    let key = string_bytes c.args.key in
    let w = c.gather_nodes.new.high in
    let got : get_by_text m key ≡ Some c.in-Some.stronger.now =
    sym (rw c.as_str.ensures.value at c.get_mut.ensures.value) ∙ ap option_copied_mut c.in-Some.is in
    let written = rw c.as_str.ensures.value at (c.get_mut.follows.holds w) in
    entry_gathered node_at m (c.get_mut.follows.lender w) key c.args.low w
    (after_write key w m (c.get_mut.follows.lender w) (written.3 (rw got refl)))
    (entry_met node_at (get_by_text m key) c.in-Some.stronger.now c.args.low w got (c.if-gather_nodes.ensures.ok refl))

pub gather_entry-returns-else-gather_nodes-clause-refused : goal.gather_entry-returns-else-gather_nodes-clause-refused
gather_entry-returns-else-gather_nodes-clause-refused t c same =
    let m = c.args.high.now in
    let key = string_bytes c.args.key in
    let got : get_by_text m key ≡ Some c.in-Some.stronger.now =
    sym (rw c.as_str.ensures.value at c.get_mut.ensures.value) ∙ ap option_copied_mut c.in-Some.is in
    let inner = c.if-gather_nodes.ensures.refused refl in
    let told = rw c.as_str-in-Some.ensures.value at (c.tell_below.ensures inner.0 inner.1) in
    (told.0, told.1, entry_refused node_at m key c.in-Some.stronger.now c.args.low inner.0 told.0 got told.2 inner.2)

pub gather_nodes-returns-then-not-gather_tables-clause-refused :
    goal.gather_nodes-returns-then-not-gather_tables-clause-refused
gather_nodes-returns-then-not-gather_tables-clause-refused t c same =
    let told = rw (c.deref_mut.ensures.value, c.deref_mut-in-Table-replace.ensures.value) at
    (c.if-not-gather_tables.ensures.refused refl) in (
      told.0,
      told.1,
      tables_refused c.args.high.now c.args.low c.in-Table-replace.table c.in-Table.table
          told.0 (sym c.replace.ensures.value ∙ c.in-Table-replace.is) c.in-Table.is told.2,
    )

pub gather_nodes-returns-else-not-gather_tables-clause-ok : goal.gather_nodes-returns-else-not-gather_tables-clause-ok
gather_nodes-returns-else-not-gather_tables-clause-ok t c same =
    let s = c.in-Table-replace.table in
    let w = c.in-Table.table in
    let new = with_value s c.gather_tables.new.high in λ p.
    ap (λ (n : Node). both (R (node_at n p)) (node_at c.args.low p)) (sym c.replace.ensures.value ∙ c.in-Table-replace.is)
    ∙ ap (λ (o : Option Cell). both (R o) (node_at c.args.low p))
    (table_node s p ∙ ap (λ (x : TargetConfig). target_at x p) (sym c.deref_mut-in-Table-replace.ensures.value))
    ∙ ap (λ (n : Node). both (R (target_at c.deref_mut-in-Table-replace.result.now p)) (node_at n p)) c.in-Table.is
    ∙ ap (λ (o : Option Cell). both (R (target_at c.deref_mut-in-Table-replace.result.now p)) o)
    (table_node w p ∙ ap (λ (x : TargetConfig). target_at x p) (sym c.deref_mut.ensures.value))
    ∙ c.if-not-gather_tables.ensures.ok refl p ∙ ap (λ (o : Option Cell). Ok (R o)) (sym (table_node new p))
