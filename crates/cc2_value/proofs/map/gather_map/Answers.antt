use Rattle.std.proofs.Common.{◌≡◌, [], ◌∷◌, ◌++◌, String, Global, arith, sym, ap, ◌∙◌, append_assoc}
use Rattle.std.proofs.lemmas.List.{append-nil}
use Rattle.std.proofs.lemmas.Grind.{common_steps}
use Rattle.std.proofs.lemmas.Result.{err_from_is_err_and}
use Rattle.cc2_value.proofs.GatheredMaps.{gathered_more, gathered_map, ungathered_here}
use Rattle.cc2_value.proofs.map.gather_map.Goals as goal

pub returns-in_err-gather_entry-clause-refused : goal.returns-in_err-gather_entry-clause-refused
returns-in_err-gather_entry-clause-refused g c =
    let (done, whole, so_far) = c.loop-key.invariant in
    let e : String Global × _ = (c.in-Some.key, c.in-Some.weaker) in
    let iter : c.loop-key.key-iterator ≡ e ∷ c.next.new.self = grind (arith, common_steps) in
    let all : c.args.low.now.entries ≡ done ++ e ∷ c.next.new.self = whole ∙ ap (λ es. done ++ es) iter in
    let sorted = rw (c.replace-weaker_ones.ensures.value, all) at c.into_iter-key-iterator.ensures.into_iter_gives.5 in
    let p = err_from_is_err_and c.from_residual.result c.from_residual.ensures.1 in
    rw (p.1, p.2) (ungathered_here g.V.MergeFrom.cell_at done e c.next.new.self c.args.map.now c.args.low.now
    c.loop-key.map _ all sorted so_far c.in_err-gather_entry.ensures.refused)

pub loop-key-preserved : goal.loop-key-preserved
loop-key-preserved g c =
    let (done, whole, so_far) = c.loop-key.invariant in
    let e : String Global × _ = (c.in-Some.key, c.in-Some.weaker) in
    let iter : c.loop-key.key-iterator ≡ e ∷ c.next.new.self = grind (arith, common_steps) in
    let all : c.args.low.now.entries ≡ done ++ e ∷ c.next.new.self = whole ∙ ap (λ es. done ++ es) iter in
    let sorted = rw (c.replace-weaker_ones.ensures.value, all) at
    c.into_iter-key-iterator.ensures.into_iter_gives.5 in (
      done ++ e ∷ [],
      all ∙ sym (append_assoc done (e ∷ []) c.next.new.self),
      gathered_more g.V.MergeFrom.cell_at done e c.next.new.self c.args.map.now c.loop-key.map
          c.gather_entry.new.map sorted c.in_ok-gather_entry.ensures.ok so_far,
    )

pub returns-clause-ok : goal.returns-clause-ok
returns-clause-ok g c =
    let (done, whole, so_far) = c.loop-key.invariant in
    let iter : c.loop-key.key-iterator ≡ [] = grind (arith, common_steps) in
    let all : c.args.low.now.entries ≡ done = whole ∙ ap (λ es. done ++ es) iter ∙ append-nil done in
    gathered_map g.V.MergeFrom.cell_at c.args.map.now c.args.low.now c.loop-key.map (rw all so_far)
