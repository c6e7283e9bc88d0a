use Rattle.std.proofs.Common.{◌≡◌, Option, option_map, [], ◌∷◌, ◌++◌, String, Global, string_bytes, sym}
use Rattle.std.proofs.Common.{ap, subst, ◌∙◌, append_assoc}
use Rattle.std.proofs.lemmas.List.{append-nil}
use Rattle.std.specs.List.Sorted.{IsStrictlySortedBy}
use Rattle.std.specs.Map.{keys_of}
use Rattle.std.specs.String.{string_cmp}
use Rattle.cc2_value.specs.Copies.{origin_given, cell_set, IsCopied}
use Rattle.cc2_value.proofs.Built.{built_more}
use Rattle.cc2_value.proofs.Copies.{copy_seen, map_copied}
use Rattle.cc2_target_table.specs.declared.target.Node.{Node}
use Rattle.cc2_target_table.specs.declared.target.TargetConfig.{TargetConfig}
use Rattle.cc2_value.specs.Shown.{map_at}
use Rattle.cc2_value.specs.Visits.{FieldsCopied}
use Rattle.cc2_target_table.specs.Target.{target_fields, node_at}
use Rattle.cc2_value.specs.Cells.{Cell}
use Rattle.cc2_target_table.proofs.Targets.{target_copied, table_node}
use Rattle.cc2_target_table.proofs.target.copy.+copy.Goals as goal

pub copied_nested-loop-key-preserved : goal.copied_nested-loop-key-preserved
copied_nested-loop-key-preserved t c =
    let (done, whole, so_far) = c.loop-key.invariant in
    let origin = origin_given c.args.definition in
    let e : String Global × Node = (c.in-Some.key.now, c.in-Some.node.now) in
    let left = c.next.new.self in
    let all : c.args.nested.now.entries ≡ done ++ e ∷ left = whole ∙ ap (λ es. done ++ es) c.in-Some.ensures.steps in
    let sorted = subst (λ es. IsStrictlySortedBy string_cmp (keys_of es)) all c.iter-key-items.ensures.ordered in
    let named : string_bytes c.in_ok-clone.field-0 ≡ string_bytes e.0 = c.in_ok-clone.ensures.cases in (
      done ++ e ∷ [],
      all ∙ sym (append_assoc done (e ∷ []) left),
      built_more node_at (copy_seen node_at origin) done e left c.loop-key.copies c.insert.new.nested
          c.in_ok-clone.field-0 c.in_ok-copy.copy sorted named c.in_ok-insert.ensures
          (λ p. sym (c.in_ok-copy.ensures p)) so_far,
    )

pub copied_nested-returns : goal.copied_nested-returns
copied_nested-returns t c =
    let (done, whole, so_far) = c.loop-key.invariant in
    let all : c.args.nested.now.entries ≡ done = whole ∙ ap (λ es. done ++ es) c.in-None.ensures.steps.0
    ∙ append-nil done in
    map_copied node_at (origin_given c.args.definition) c.args.nested.now c.loop-key.copies (rw all so_far)

pub copied_node-returns : goal.copied_node-returns
copied_node-returns t c =
    let origin = origin_given c.args.definition in
    let was = c.in-Table.table.value in
    let own = subst (λ (x : TargetConfig). FieldsCopied target_fields origin x c.copy_own.new.copy)
    c.deref.ensures c.in_ok-copy_own.ensures in
    let fields = subst (λ (x : TargetConfig). FieldsCopied target_fields origin was x)
    (sym c.deref_mut-2.ensures.value) own in
    let below = subst (λ (x : TargetConfig). IsCopied (map_at node_at) origin x.nested
    c.in_ok-copy-2.field-0) c.deref-2.ensures c.in_ok-copy-2.ensures in
    let copied = target_copied origin was _ fields below in λ p.
    table_node _ p ∙ copied p ∙ ap (λ (o : Option Cell). option_map (cell_set origin) o)
    (sym (table_node c.in-Table.table p))
    ∙ ap (λ (n : Node). option_map (cell_set origin) (node_at n p)) (sym c.in-Table.is)
