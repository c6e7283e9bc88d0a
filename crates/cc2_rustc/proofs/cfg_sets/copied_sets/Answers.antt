use Rattle.std.proofs.Common.{◌≡◌, [], ◌∷◌, ◌++◌, string_bytes, option_map, sym, ap, subst, ◌∙◌, append_assoc}
use Rattle.std.proofs.lemmas.List.{append-nil}
use Rattle.std.specs.List.Sorted.{IsStrictlySortedBy}
use Rattle.std.specs.Map.{keys_of}
use Rattle.std.specs.String.{string_cmp}
use Rattle.cc2_value.proofs.Found.{found}
use Rattle.cc2_rustc.specs.Printed.{atoms_of}
use Rattle.cc2_rustc.proofs.CopiedSets.{Entry, copied_more}
use Rattle.cc2_rustc.proofs.cfg_sets.copied_sets.Goals as goal

pub loop-name-preserved : goal.loop-name-preserved
loop-name-preserved c =
    let (done, whole, so_far) = c.loop-name.invariant in
    let e : Entry = (c.in-Some.name.now, c.in-Some.set.now) in
    let left = c.next.new.self in
    let all : c.args.sets.now.entries ≡ done ++ e ∷ left = whole ∙ ap (λ es. done ++ es) c.in-Some.ensures.steps in
    let sorted = subst (λ es. IsStrictlySortedBy string_cmp (keys_of es)) all c.iter-name-items.ensures.ordered in
    let named : string_bytes c.in_ok-from_str.field-0 ≡ string_bytes e.0 =
    c.in_ok-from_str.ensures.ok ∙ c.as_str.ensures.value in (
      done ++ e ∷ [],
      all ∙ sym (append_assoc done (e ∷ []) left),
      copied_more done e left c.loop-name.copies c.put.new.map c.in_ok-from_str.field-0 c.in_ok-set.set sorted named
          c.in_ok-put.ensures.updates c.in_ok-set.ensures so_far,
    )

pub returns-clause-same : goal.returns-clause-same
returns-clause-same c name =
    let (done, whole, so_far) = c.loop-name.invariant in
    let all : c.args.sets.now.entries ≡ done =
    whole ∙ ap (λ es. done ++ es) c.in-None.ensures.steps.0 ∙ append-nil done in
    so_far name ∙ ap (λ es. option_map atoms_of (found name es)) (sym all)
