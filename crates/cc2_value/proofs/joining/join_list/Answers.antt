use Rattle.std.proofs.Common.{◌<◌, ◌≤◌, ◌∷◌, [], ◌+◌, ◌++◌, drop, length, get_or, ap, sym, ◌∙◌, arith, refl}
use Rattle.std.proofs.lemmas.List.{length_push}
use Rattle.std.specs.List.{list_any}
use Rattle.std.specs.Option.{is_some}
use Rattle.cc2_value.specs.Cells.{joined, cells_at}
use Rattle.cc2_value.specs.Shown.{option_at}
use Rattle.cc2_value.proofs.Walked.{present_more}
use Rattle.cc2_value.proofs.Gathers.{one_kept, all_joined, mixed_at_next}
use Rattle.cc2_value.proofs.Walked.{here_now, walked_more, all_walked}
use Rattle.cc2_value.proofs.joining.join_list.Goals as goal

pub loop-value-init : goal.loop-value-init
loop-value-init g c = ([], refl, refl, c.deref_mut-value-items.ensures.value, λ p. refl, refl)

pub loop-value-preserved : goal.loop-value-preserved
loop-value-preserved g c =
    let (passed, at, index, whole, cells, there) = c.loop-value.invariant in
    let i = c.loop-value.value-index in
    let xs = c.loop-value.value-items in
    let x = get_or xs i c.value-item.result in
    let lt : i < length xs = omega arith in (
      passed ++ x ∷ [],
      ap (λ n. n + 1) at ∙ sym (length_push passed x),
      ap (λ n. n + 1) index,
      walked_more passed xs c.args.list.now.items i x c.gather_at.new.value (omega arith) lt (ap (get_or xs i) c.value-item.is) whole,
      one_kept (option_at g.T.MergeFrom.cell_at) c.loop-value.is_reversed c.in-Ok.now passed c.loop-value.gathered x c.gather_at.new.gathered cells c.in-Ok.ensures.ok,
      present_more passed c.loop-value.gathered x c.gather_at.new.gathered there c.in-Ok.ensures.present,
    )

pub returns-in-Err-clause-refused : goal.returns-in-Err-clause-refused
returns-in-Err-clause-refused g c =
    let (passed, at, index, whole, cells, there) = c.loop-value.invariant in
    let i = c.loop-value.value-index in
    let xs = c.loop-value.value-items in
    let x = get_or xs i c.value-item.result in
    let lt : i < length xs = omega arith in
    mixed_at_next (option_at g.T.MergeFrom.cell_at) c.loop-value.is_reversed passed x (drop (i + 1) xs) c.args.list.now.items
    c.loop-value.gathered c.loop-value.place c.in-Err.fault at
    (ap (λ zs. passed ++ zs) (sym (here_now xs i x lt (ap (get_or xs i) c.value-item.is))) ∙ whole)
    cells c.in-Err.ensures.refused

pub returns-in-Ok-reverse_if-clause-ok : goal.returns-in-Ok-reverse_if-clause-ok
returns-in-Ok-reverse_if-clause-ok g c =
    let (passed, at, index, whole, cells, there) = c.loop-value.invariant in
    let done : length c.loop-value.value-items ≤ c.loop-value.value-index = omega arith in
    let all = all_walked passed c.loop-value.value-items c.args.list.now.items c.loop-value.value-index done whole in
    all_joined (option_at g.T.MergeFrom.cell_at) c.loop-value.is_reversed c.args.list.now.items c.loop-value.gathered c.reverse_if.new.value
    (λ p. ap (λ xs. joined (cells_at (option_at g.T.MergeFrom.cell_at) p xs)) (sym all) ∙ cells p) c.in-Ok-reverse_if.ensures.ok

pub returns-in-Ok-reverse_if-clause-present : goal.returns-in-Ok-reverse_if-clause-present
returns-in-Ok-reverse_if-clause-present g c =
    let (passed, at, index, whole, cells, there) = c.loop-value.invariant in
    let done : length c.loop-value.value-items ≤ c.loop-value.value-index = omega arith in
    let all = all_walked passed c.loop-value.value-items c.args.list.now.items c.loop-value.value-index done whole in
    c.reverse_if.ensures.present ∙ there ∙ ap (list_any is_some) all
