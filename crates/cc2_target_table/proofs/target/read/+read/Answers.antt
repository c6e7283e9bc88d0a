use Rattle.std.proofs.Common.{◌≡◌, List, Some, ap, sym, ◌∙◌, subst, [], ◌∷◌, ◌++◌, true, false, arith, refl}
use Rattle.std.proofs.Common.{append_assoc, string_bytes}
use Rattle.std.proofs.lemmas.List.{append-nil}
use Rattle.std.proofs.lemmas.Grind.{common_steps}
use Rattle.toml.specs.Data.{as_table}
use Rattle.toml.specs.View.{view, table_view}
use Rattle.toml.specs.declared.value.Value.{Value}
use Rattle.toml.proofs.Views.{Entry, view-Table}
use Rattle.cc2_target_table.proofs.Targets.{table_node, mark_node}
use Rattle.cc2_value.specs.Copies.{origin_given}
use Rattle.cc2_value.specs.Visits.{FieldsDecoded}
use Rattle.cc2_target_table.specs.declared.target.TargetConfig.{TargetConfig}
use Rattle.cc2_target_table.specs.Target.{target_fields}
use Rattle.cc2_value.specs.Ways.{Flaw}
use Rattle.cc2_target_table.specs.TargetReading.{is_field, IsFaulty}
use Rattle.cc2_target_table.proofs.TargetReads.{kept_read, kept_mark, IsReadSoFar, IsOwnSoFar, target_read, read_start}
use Rattle.cc2_target_table.proofs.TargetReads.{own_alone, nothing_nested}
use Rattle.cc2_target_table.proofs.TargetReads.{read_more, read_past, read_all, own_start, own_more, own_past, own_read, own_same_faults}
use Rattle.cc2_target_table.proofs.target.read.+read.Goals as goal

pub read_nested-returns-then-has_fields_alone-clause-own : goal.read_nested-returns-then-has_fields_alone-clause-own
read_nested-returns-then-has_fields_alone-clause-own t c = own_alone c.args.table (c.if-has_fields_alone.ensures refl)

pub read_nested-returns-then-has_fields_alone-clause-nested : goal.read_nested-returns-then-has_fields_alone-clause-nested
read_nested-returns-then-has_fields_alone-clause-nested t c =
    nothing_nested c.args.table (c.if-has_fields_alone.ensures refl) (origin_given c.args.definition)
    c.new.result c.new.ensures.empty

pub read_nested-loop-name-init : goal.read_nested-loop-name-init
read_nested-loop-name-init t c = (
  [],
  grind (arith, common_steps),
  read_start (origin_given c.args.definition) c.new-nested.result c.new-nested.ensures.empty,
  own_start c.new-own.result c.new-own.ensures.empty,
)

pub read_nested-loop-name-preserved : goal.read_nested-loop-name-preserved
read_nested-loop-name-preserved t c =
    let (done, whole, so_far, owns) = c.loop-name.invariant in
    let e : Entry = (c.in-Some.name, c.in-Some.value) in
    let left = c.next.new.self in
    let iter : c.loop-name.name-iterator ≡ e ∷ left = grind (arith, common_steps) in
    let all : c.args.table.entries ≡ done ++ e ∷ left = whole ∙ ap (λ es. done ++ es) iter in
    let sorted = rw all at c.into_iter-name-iterator.ensures.into_iter_gives.5 in
    let free : is_field (string_bytes e.0) ≡ false = ap is_field (sym c.as_str.ensures.value) ∙
    sym c.is_field.ensures ∙ c.if-is_field.false in (
      done ++ e ∷ [],
      all ∙ sym (append_assoc done (e ∷ []) left),
      read_more (origin_given c.args.definition) done e left c.loop-name.nested c.insert.new.nested
          e.0 c.in_ok-node.node sorted refl free c.in_ok-insert.ensures c.in_ok-node.ensures so_far,
      own_past done e c.loop-name.own free owns,
    )

pub read_nested-loop-name-preserved-in-Continue-1 : goal.read_nested-loop-name-preserved-in-Continue-1
read_nested-loop-name-preserved-in-Continue-1 t c =
    let (done, whole, so_far, owns) = c.loop-name.invariant in
    let e : Entry = (c.in-Some.name, c.in-Some.value) in
    let left = c.next.new.self in
    let iter : c.loop-name.name-iterator ≡ e ∷ left = grind (arith, common_steps) in
    let all : c.args.table.entries ≡ done ++ e ∷ left = whole ∙ ap (λ es. done ++ es) iter in
    let sorted = rw all at c.into_iter-name-iterator.ensures.into_iter_gives.5 in
    let own : is_field (string_bytes e.0) ≡ true = ap is_field (sym c.as_str.ensures.value) ∙
    sym c.is_field.ensures ∙ c.if-is_field.true in (
      done ++ e ∷ [],
      all ∙ sym (append_assoc done (e ∷ []) left),
      read_past (origin_given c.args.definition) done e c.loop-name.nested own so_far,
      own_more done e left c.loop-name.own c.put.new.own sorted own c.in_ok-put.ensures owns,
    )

pub read_nested-returns-clause-nested : goal.read_nested-returns-clause-nested
read_nested-returns-clause-nested t c =
    let (done, whole, so_far, owns) = c.loop-name.invariant in
    let iter : c.loop-name.name-iterator ≡ [] = grind (arith, common_steps) in
    let all : done ≡ c.args.table.entries = sym (whole ∙ ap (λ es. done ++ es) iter ∙ append-nil done) in
    read_all (origin_given c.args.definition) c.args.table.entries c.loop-name.nested
    (subst (λ es. IsReadSoFar (origin_given c.args.definition) es c.loop-name.nested) all so_far)

pub read_nested-returns-clause-own : goal.read_nested-returns-clause-own
read_nested-returns-clause-own t c =
    let (done, whole, so_far, owns) = c.loop-name.invariant in
    let iter : c.loop-name.name-iterator ≡ [] = grind (arith, common_steps) in
    let all : done ≡ c.args.table.entries = sym (whole ∙ ap (λ es. done ++ es) iter ∙ append-nil done) in
    subst (λ es. IsOwnSoFar es c.loop-name.own) all owns

pub read_node-returns : goal.read_node-returns
read_node-returns t c =
    let origin = origin_given c.args.definition in
    let ms = table_view c.in-Table.table in
    let is : as_table (view c.args.value) ≡ Some ms = ap (λ (v : Value). as_table (view v))
    c.in-Table.is ∙ ap as_table (view-Table c.in-Table.table) in
    let read = own_read c.in-Table.table c.in_ok-parts.parts.own c.in_ok-parts.ensures.own origin c.read_own.new.read
    (c.in_ok-read_own.ensures.sound c.if-not-branch.false) in
    let fields = subst (λ (x : TargetConfig). FieldsDecoded target_fields origin ms x)
    (sym c.deref_mut-2.ensures.value) read in λ p.
    table_node _ p ∙ kept_read p origin (as_table (view c.args.value)) ms _ is
    (target_read origin ms _ fields c.in_ok-parts.ensures.nested)

pub read_node-returns-then-not-branch : goal.read_node-returns-then-not-branch
read_node-returns-then-not-branch t c =
    let origin = origin_given c.args.definition in
    let ms = table_view c.in-Table.table in
    let is : as_table (view c.args.value) ≡ Some ms = ap (λ (v : Value). as_table (view v))
    c.in-Table.is ∙ ap as_table (view-Table c.in-Table.table) in
    let faulty = subst (λ (flaws : List Flaw). IsFaulty flaws)
    (own_same_faults c.in-Table.table c.in_ok-parts.parts.own c.in_ok-parts.ensures.own)
    (c.in_ok-read_own.ensures.faulty c.if-not-branch.true) in λ p.
    mark_node p ∙ kept_mark p origin (as_table (view c.args.value)) ms is faulty
