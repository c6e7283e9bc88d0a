use Rattle.std.proofs.Common.{◌≡◌, [], ◌∷◌, ◌++◌, String, Global, string_bytes, refl, sym, ap, subst, ◌∙◌, append_assoc}
use Rattle.std.proofs.lemmas.List.{append-nil}
use Rattle.std.specs.List.Sorted.{IsStrictlySortedBy}
use Rattle.std.specs.Map.{keys_of}
use Rattle.std.specs.String.{string_cmp}
use Rattle.cc2_value.proofs.Built.{built_more}
use Rattle.cc2_value.proofs.Copies.{named_at, name_seen, names_copied}
use Rattle.cargo_config2.proofs.tables.names_of.Goals as goal

pub loop-name-preserved : goal.loop-name-preserved
loop-name-preserved c =
    let (done, whole, names) = c.loop-name.invariant in
    let e : String Global × _ = (c.in-Some.name.now, c.in-Some.field-0-1.now) in
    let left = c.next.new.self in
    let all : c.args.map.now.entries ≡ done ++ e ∷ left = whole ∙ ap (λ es. done ++ es) c.in-Some.ensures.steps in
    let sorted = subst (λ es. IsStrictlySortedBy string_cmp (keys_of es)) all c.iter-name-items.ensures.ordered in
    let named : string_bytes c.in_ok-clone.field-0 ≡ string_bytes e.0 = c.in_ok-clone.ensures.cases in (
      done ++ e ∷ [],
      all ∙ sym (append_assoc done (e ∷ []) left),
      built_more named_at name_seen done e left c.loop-name.names c.put.new.map c.in_ok-clone.field-0 _
          sorted named c.in_ok-put.ensures.updates (λ p. refl) names,
    )

pub returns-clause-ok : goal.returns-clause-ok
returns-clause-ok c =
    let (done, whole, names) = c.loop-name.invariant in
    let all : c.args.map.now.entries ≡ done = whole ∙ ap (λ es. done ++ es) c.in-None.ensures.steps.0 ∙
    append-nil done in
    names_copied c.args.map.now c.loop-name.names (rw all names)
