use Rattle.std.proofs.Common.{◌≡◌, [], ◌∷◌, ◌++◌, String, Global, string_bytes, sym, ap, subst, ◌∙◌, append_assoc}
use Rattle.std.proofs.lemmas.List.{append-nil}
use Rattle.std.specs.List.Sorted.{IsStrictlySortedBy}
use Rattle.std.specs.Map.{keys_of}
use Rattle.std.specs.String.{string_cmp}
use Rattle.cc2_resolved.proofs.ByName.{one_done}
use Rattle.cc2_resolved.proofs.Copying.{IsSameMember, names_same}
use Rattle.cc2_resolved.proofs.try_clone.copied_names.Goals as goal

pub loop-key-preserved : goal.loop-key-preserved
loop-key-preserved g c =
    let (done, whole, so_far) = c.loop-key.invariant in
    let e : String Global × _ = (c.in-Some.key.now, c.in-Some.value.now) in
    let left = c.next.new.self in
    let all : c.args.map.now.entries ≡ done ++ e ∷ left = whole ∙ ap (λ es. done ++ es) c.in-Some.ensures.steps in
    let sorted = subst (λ es. IsStrictlySortedBy string_cmp (keys_of es)) all c.iter-key-items.ensures.ordered in
    let named : string_bytes c.in_ok-clone.field-0 ≡ string_bytes e.0 = c.in_ok-clone.ensures.cases in (
      done ++ e ∷ [],
      all ∙ sym (append_assoc done (e ∷ []) left),
      one_done (IsSameMember g.V.TryClone.member) done e left c.loop-key.copies c.put.new.map c.in_ok-clone.field-0
          c.in_ok-copy.copy sorted named c.in_ok-put.ensures.updates c.in_ok-copy.ensures.same_member.same so_far,
    )

pub returns-clause-same : goal.returns-clause-same
returns-clause-same g c =
    let (done, whole, so_far) = c.loop-key.invariant in
    let all : c.args.map.now.entries ≡ done = whole ∙ ap (λ es. done ++ es) c.in-None.ensures.steps.0 ∙
    append-nil done in
    names_same g.V.TryClone.member c.args.map.now c.loop-key.copies (rw all so_far)
