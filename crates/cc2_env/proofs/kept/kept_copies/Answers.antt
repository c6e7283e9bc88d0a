use Rattle.std.proofs.Common.{◌≡◌, ◌+◌, ◌∷◌, sym, ap, subst, ◌∙◌, drop, List}
use Rattle.std.proofs.lemmas.List.{drop_more}
use Rattle.cc2_env.specs.Kept.{is_kept_name}
use Rattle.cc2_env.proofs.Keeping.{Entry, IsKeptSoFar, entry_kept, entry_passed}
use Rattle.cc2_env.proofs.kept.kept_copies.Goals.{then-is_kept+in_ok-value+in_ok-clone+in_ok-put, else-is_kept}
use Rattle.cc2_env.proofs.kept.kept_copies.Goals as goal

pub loop-entry-preserved : goal.loop-entry-preserved
loop-entry-preserved c =
    let env : List Entry = c.args.env.now in
    let left : List Entry = drop (c.loop-entry.entry-index + 1) env in
    let e : Entry = c.entry-item.result in
    let here : drop c.loop-entry.entry-index env ≡ e ∷ left =
    drop_more env c.loop-entry.entry-index e c.loop-entry-test.true
    ∙ ap (λ (x : Entry). x ∷ left) (sym c.entry-item.is) in
    let so_far : IsKeptSoFar env (e ∷ left) c.loop-entry.map =
    subst (λ (es : List Entry). IsKeptSoFar env es c.loop-entry.map) here c.loop-entry.invariant in
    elim c.if-is_kept.branch [
      | then-is_kept+in_ok-value+in_ok-clone+in_ok-put w ↦
          subst (IsKeptSoFar env left) (sym w.map-is)
          (entry_kept env left e c.loop-entry.map w.put.new.map w.in_ok-clone.field-0 w.in_ok-value.value
          (ap is_kept_name (sym c.as_str.ensures.value) ∙ sym w.if-is_kept.ensures) w.in_ok-clone.ensures.cases
          (w.in_ok-value.ensures.items ∙ w.as_slice.ensures.value) w.in_ok-put.ensures.updates so_far)
      | else-is_kept w ↦
          subst (IsKeptSoFar env left) (sym w.map-is)
          (entry_passed env left e c.loop-entry.map
          (ap is_kept_name (sym c.as_str.ensures.value) ∙ sym w.if-is_kept.ensures) so_far)
    ]
