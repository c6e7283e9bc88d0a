use Rattle.std.proofs.Common.{◌≡◌, [], ◌∷◌, ◌++◌, String, Global, refl, sym, ap, subst, ◌∙◌, append_assoc}
use Rattle.std.proofs.lemmas.List.{append-nil}
use Rattle.std.specs.List.Sorted.{IsStrictlySortedBy}
use Rattle.std.specs.Map.{keys_of}
use Rattle.std.specs.String.{string_cmp}
use Rattle.cc2_value.specs.Copies.{origin_given}
use Rattle.cc2_value.proofs.SortedMaps.{AreMade, made_more, made_named, made_sorted, built_at_once}
use Rattle.cc2_value.proofs.Copies.{copy_seen, map_copied, named_at, name_seen, names_copied}
use Rattle.cc2_value.proofs.try_clone.BTreeMapStringTryClone.copied.Goals as goal

pub loop-key-preserved : goal.loop-key-preserved
loop-key-preserved g c =
    let (done, whole, so_far) = c.loop-key.invariant in
    let look = g.V.TryClone.shown in
    let seen = copy_seen look (origin_given c.args.definition) in
    let e : String Global × _ = (c.in-Some.key.now, c.in-Some.value.now) in
    let v : String Global × _ = (c.in_ok-clone.field-0, c.in_ok-copy.copy) in
    let left = c.next.new.self in
    let all : c.args.self.now.entries ≡ done ++ e ∷ left = whole ∙ ap (λ es. done ++ es) c.in-Some.ensures.steps in
    let more = made_more look seen done c.loop-key.copies.items e v so_far c.in_ok-clone.ensures.cases
    (λ p. sym (c.in_ok-copy.ensures.ok p)) in (
      done ++ e ∷ [],
      all ∙ sym (append_assoc done (e ∷ []) left),
      subst (AreMade look seen (done ++ e ∷ [])) (sym c.in_ok-push.ensures.items) more,
    )

pub from_sorted-requires : goal.from_sorted-requires
from_sorted-requires g c =
    let (done, whole, so_far) = c.loop-key.invariant in
    let look = g.V.TryClone.shown in
    let all : c.args.self.now.entries ≡ done = whole ∙ ap (λ es. done ++ es) c.in-None.ensures.steps.0 ∙
    append-nil done in
    made_sorted look (copy_seen look (origin_given c.args.definition)) done c.loop-key.copies.items so_far
    (subst (λ es. IsStrictlySortedBy string_cmp (keys_of es)) all c.iter-key-items.ensures.ordered)

pub returns-clause-names : goal.returns-clause-names
returns-clause-names g c =
    let (done, whole, so_far) = c.loop-key.invariant in
    let look = g.V.TryClone.shown in
    let copies = c.loop-key.copies.items in
    let all : c.args.self.now.entries ≡ done = whole ∙ ap (λ es. done ++ es) c.in-None.ensures.steps.0 ∙
    append-nil done in
    let named = made_named look (copy_seen look (origin_given c.args.definition)) named_at name_seen
    (λ k p v w. refl) done copies so_far in
    names_copied c.args.self.now c.in_ok-from_sorted.field-0 (rw all (built_at_once named_at name_seen
    (λ k p. refl) done copies c.in_ok-from_sorted.field-0 named c.in_ok-from_sorted.ensures))

pub returns-clause-ok : goal.returns-clause-ok
returns-clause-ok g c =
    let (done, whole, so_far) = c.loop-key.invariant in
    let look = g.V.TryClone.shown in
    let origin = origin_given c.args.definition in
    let all : c.args.self.now.entries ≡ done = whole ∙ ap (λ es. done ++ es) c.in-None.ensures.steps.0 ∙
    append-nil done in
    map_copied look origin c.args.self.now c.in_ok-from_sorted.field-0 (rw all (built_at_once look
    (copy_seen look origin) (λ k p. refl) done c.loop-key.copies.items c.in_ok-from_sorted.field-0 so_far
    c.in_ok-from_sorted.ensures))
