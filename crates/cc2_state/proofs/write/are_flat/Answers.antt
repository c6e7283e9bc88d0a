use Rattle.std.proofs.Common.{◌≡◌, [], ◌∷◌, ◌++◌, String, Global, arith, sym, ap, ◌∙◌, append_assoc}
use Rattle.std.proofs.lemmas.List.{nil_from_length}
use Rattle.cc2_target_table.specs.declared.target.TargetConfig.{TargetConfig}
use Rattle.cc2_state.specs.Shown.{IsFlatTable}
use Rattle.cc2_state.proofs.Reading.{all_more}
use Rattle.cc2_state.proofs.write.are_flat.Goals as goal

pub loop-table-preserved : goal.loop-table-preserved
loop-table-preserved c =
    let (done, whole, flat) = c.loop-table.invariant in
    let e : String Global × TargetConfig = (c.in-Some.field-0-0.now, c.in-Some.table.now) in
    let left = c.next.new.self in
    let all : c.args.tables.now.entries ≡ done ++ e ∷ left = whole ∙ ap (λ es. done ++ es) c.in-Some.ensures.steps in
    let one : IsFlatTable e.1 = nil_from_length e.1.nested.entries (grind (arith, c.is_empty.ensures, c.if-not-is_empty.false)) in
    (done ++ e ∷ [], all ∙ sym (append_assoc done (e ∷ []) left), all_more (λ x. IsFlatTable x.1) done e flat one)
