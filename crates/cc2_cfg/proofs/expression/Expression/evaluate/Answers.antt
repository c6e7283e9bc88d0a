use Rattle.std.proofs.Common.{◌≡◌, ℕ, length, map, drop, ◌∷◌, [], sym, ap, ◌∙◌, refl, arith, subst, ◌<◌}
use Rattle.std.specs.Prelude.{reverse}
use denote.Param.Always.{mut_next}
use Rattle.cc2_cfg.specs.Shown.{tree_of}
use Rattle.cc2_cfg.proofs.Leaves.{leaf-among, answered}
use Rattle.cc2_cfg.specs.Meaning.{meaning}
use Rattle.cc2_cfg.specs.Table.{Leaf, atom_of, label_of, part_label, row_of, operator_of}
use Rattle.cc2_cfg.specs.Running.{add}
use Rattle.cc2_cfg.proofs.Evaluation.{table-some, start-leaf, start-group, pop-pending, end-pending, pending-along}
use Rattle.cc2_cfg.proofs.Evaluation.{last-pending, over-pending, reverse-snoc, reverse-none, drop-end}
use Rattle.cc2_cfg.proofs.Evaluation.{leaf-next, group-next}
use Rattle.cc2_cfg.proofs.Flat.{flat-leaf}
use Rattle.cc2_cfg.proofs.Pending.{Pending}
use Rattle.cc2_cfg.proofs.expression.Expression.evaluate.Goals as goal

pub index-root-requires : goal.index-root-requires
index-root-requires g c =
    omega (
      arith,
      table-some c.args.self.now.nodes.items (tree_of c.args.self.now)
          c.args.self.now.table,
      c.args.self.now.nodes.ok.0,
    )

pub returns-in-Leaf-clause-value : goal.returns-in-Leaf-clause-value
returns-in-Leaf-clause-value g c = λ answers always.
    let label : label_of c.index-root.result.now.kind ≡ Leaf (atom_of c.in-Leaf.predicate) =
    sym c.part.ensures ∙ ap part_label c.in-Leaf.is in
    let among = leaf-among c.args.self.now.nodes.items (tree_of c.args.self.now) 0
    c.index-root.result.now _ c.args.self.now.table
    (table-some c.args.self.now.nodes.items (tree_of c.args.self.now) c.args.self.now.table)
    c.index-root.ensures label in
    let called = answered g.F.FnMut _ _ _ _ _ _ always c.ask.ensures among in
    called.0 ∙ sym (start-leaf g.T.Logic.operations answers c.args.self.now.nodes.items
    (tree_of c.args.self.now) c.index-root.result.now _ c.args.self.now.table c.index-root.ensures label)

pub nodes-init : goal.nodes-init
nodes-init g c = (
  c.requires,
  omega arith,
  λ answers always. (
    always,
    pending-along g.T.Logic.operations answers [] (reverse c.new-stack.result.items) _ _ _ _ _ _ _ _ _ _
        (ap reverse (sym c.new-stack.ensures.items)) (ap operator_of (sym c.new-current.ensures.func))
        (sym c.new-current.ensures.end) (sym c.new-current.ensures.value) refl
        (start-group g.T.Logic.operations answers g.met.T.Logic.laws c.args.self.now.nodes.items
        (tree_of c.args.self.now) c.index-root.result.now (operator_of c.in-Function.func)
        c.args.self.now.table c.index-root.ensures (sym c.part.ensures ∙ ap part_label c.in-Function.is)),
  ),
)

pub returns-in_default-clause-value : goal.returns-in_default-clause-value
returns-in_default-clause-value g c = λ answers always.
    let p = (c.nodes.invariant.2 answers always).1 in
    let over = over-pending g.T.Logic.operations answers (map row_of c.args.self.now.nodes.items)
    (reverse c.nodes.stack.items) _ _ _ c.nodes.at _ p (c.is_over.ensures.yes c.if-is_over.true) in
    c.close-value.ensures ∙ sym (last-pending g.T.Logic.operations answers (reverse c.nodes.stack.items) _ _ _ _ _ _
    (reverse-none c.nodes.stack.items (sym c.nodes.stack.ok.0 ∙ c.in_default.ensures.cases.0)) over.1 refl)

pub nodes-preserved-then-is_over : goal.nodes-preserved-then-is_over
nodes-preserved-then-is_over g c = (
  c.nodes.invariant.0,
  omega (arith, c.nodes.invariant.1, c.place_behind-at.ensures.behind),
  λ answers always.
      let p = c.nodes.invariant.2 answers always in
      let over = over-pending g.T.Logic.operations answers (map row_of c.args.self.now.nodes.items)
      (reverse c.nodes.stack.items) _ _ _ c.nodes.at _ p.1 (c.is_over.ensures.yes c.if-is_over.true) in
      let old = pending-along g.T.Logic.operations answers (reverse c.nodes.stack.items)
      (c.in-Some.outer ∷ reverse c.pop.new.self.items) _ _ _ _ _ _ _ _ _ _
      (ap reverse c.in-Some.ensures.items ∙ reverse-snoc c.pop.new.self.items c.in-Some.outer) refl refl
      refl refl over.1 in
      let next = pending-along g.T.Logic.operations answers (reverse c.pop.new.self.items) _ _ _ _ _ _ _ _ _ _ _
      refl (ap operator_of (sym c.add-current.ensures.func)) (sym c.add-current.ensures.end)
      (ap (λ (z : _). add g.T.Logic.operations (operator_of c.in-Some.outer.func) c.in-Some.outer.value
      z) (sym c.close-value.ensures) ∙ sym c.add-current.ensures.value) refl
      (pop-pending g.T.Logic.operations answers c.in-Some.outer (reverse c.pop.new.self.items) _ _ _ _ _
      _ old refl) in (
        p.0,
        subst (λ (k : ℕ). Pending g.T.Logic.operations answers (reverse c.pop.new.self.items)
            (operator_of c.add-current.result.func) c.add-current.result.end c.add-current.result.value k
            (drop k (map row_of c.args.self.now.nodes.items))
            (meaning g.T.Logic.operations answers (tree_of c.args.self.now)))
            (sym (c.place_behind-at.ensures.end over.0)) next,
      ),
)

pub nodes-preserved-in-Leaf-part : goal.nodes-preserved-in-Leaf-part
nodes-preserved-in-Leaf-part g c = (
  mut_next g.F.FnMut _ _ _ _ _ c.ask-value.ensures refl c.nodes.invariant.0,
  omega arith,
  λ answers always.
      let p = c.nodes.invariant.2 answers always in
      let lt : c.nodes.at < length c.args.self.now.nodes.items = omega
      (arith, c.nodes-test.true, c.len.ensures, c.args.self.now.nodes.ok.0) in
      let label : label_of c.index-node.result.now.kind ≡ Leaf (atom_of c.in-Leaf-part.predicate) =
      sym c.part-in-nodes.ensures ∙ ap part_label c.in-Leaf-part.is in
      let among = leaf-among c.args.self.now.nodes.items (tree_of c.args.self.now) c.nodes.at
      c.index-node.result.now _ c.args.self.now.table lt c.index-node.ensures label in
      let called = answered g.F.FnMut _ _ _ _ _ _ p.0 c.ask-value.ensures among in (
        called.1,
        pending-along g.T.Logic.operations answers (reverse c.nodes.stack.items) _ _ _ _ _ _ _ _ _ _ _
            refl (ap operator_of (sym c.add-current-in-Leaf-part.ensures.func))
            (sym c.add-current-in-Leaf-part.ensures.end) (sym c.add-current-in-Leaf-part.ensures.value) refl
            (leaf-next g.T.Logic.operations answers c.args.self.now.nodes.items c.nodes.at
            c.index-node.result.now (reverse c.nodes.stack.items) _ _ _ _ (atom_of c.in-Leaf-part.predicate) _
            lt c.index-node.ensures label (c.is_over.ensures.no c.if-is_over.false) called.0 p.1),
      ),
)

pub nodes-preserved : goal.nodes-preserved
nodes-preserved g c = (
  c.nodes.invariant.0,
  omega arith,
  λ answers always.
      let p = c.nodes.invariant.2 answers always in
      let lt : c.nodes.at < length c.args.self.now.nodes.items = omega
      (arith, c.nodes-test.true, c.len.ensures, c.args.self.now.nodes.ok.0) in (
        p.0,
        pending-along g.T.Logic.operations answers (c.nodes.current ∷ reverse c.nodes.stack.items) _ _ _ _ _ _ _ _ _ _ _
            (sym (ap reverse c.in_ok-push-in-Function-part.ensures.items ∙ reverse-snoc
            c.nodes.stack.items c.nodes.current))
            (ap operator_of (sym c.new-inner.ensures.func)) (sym c.new-inner.ensures.end)
            (sym c.new-inner.ensures.value) refl
            (group-next g.T.Logic.operations answers g.met.T.Logic.laws c.args.self.now.nodes.items
            c.nodes.at c.index-node.result.now (reverse c.nodes.stack.items)
            c.nodes.current _ (operator_of c.in-Function-part.func)
            lt c.index-node.ensures (sym c.part-in-nodes.ensures ∙ ap part_label c.in-Function-part.is)
            (c.is_over.ensures.no c.if-is_over.false) p.1),
      ),
)

pub returns-in_err-push-in-Function-part-clause-flat : goal.returns-in_err-push-in-Function-part-clause-flat
returns-in_err-push-in-Function-part-clause-flat g c = λ flat.
    let lt : c.nodes.at < length c.args.self.now.nodes.items = omega
    (arith, c.nodes-test.true, c.len.ensures, c.args.self.now.nodes.ok.0) in
    absurd (flat-leaf c.args.self.now.nodes.items (tree_of c.args.self.now) c.nodes.at
    c.index-node.result.now (operator_of c.in-Function-part.func) c.args.self.now.table flat
    c.nodes.invariant.1 lt c.index-node.ensures (sym c.part-in-nodes.ensures ∙ ap part_label c.in-Function-part.is))

pub returns-clause-value : goal.returns-clause-value
returns-clause-value g c = λ answers always.
    let p = (c.nodes.invariant.2 answers always).1 in
    let ends = drop-end c.args.self.now.nodes.items c.nodes.at
    (omega (arith, c.nodes-test.false, c.len.ensures, c.args.self.now.nodes.ok.0)) in
    let q = pending-along g.T.Logic.operations answers (reverse c.nodes.stack.items) _ _ _ _ _ _ _ _ _ _
    _ refl refl refl refl ends p in
    c.end_all.ensures ∙ sym (end-pending g.T.Logic.operations answers (reverse c.nodes.stack.items) _ _ _ _ _ q)
