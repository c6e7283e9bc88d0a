use Rattle.std.proofs.Common.{◌≡◌, [], ◌∷◌, ◌++◌, true, string_bytes, ap, sym, subst, ◌∙◌, append_assoc}
use Rattle.std.proofs.lemmas.List.{append-nil}
use Rattle.toml.proofs.Views.{Entry}
use Rattle.cc2_target_table.specs.TargetReading.{is_field}
use Rattle.cc2_target_table.proofs.TargetReads.{AreFields, fields_more}
use Rattle.cc2_target_table.proofs.target.read.has_fields_alone.Goals as goal

pub loop-name-preserved : goal.loop-name-preserved
loop-name-preserved c =
    let (done, whole, so_far) = c.loop-name.invariant in
    let e : Entry = (c.in-Some.name.now, c.in-Some.field-0-1.now) in
    let left = c.next.new.self in
    let all : c.args.table.now.entries ≡ done ++ e ∷ left = whole ∙ ap (λ es. done ++ es) c.in-Some.ensures.steps in
    let own : is_field (string_bytes e.0) ≡ true = ap is_field (sym c.as_str.ensures.value) ∙
    sym c.is_field.ensures ∙ c.if-not-is_field.false in (
      done ++ e ∷ [],
      all ∙ sym (append_assoc done (e ∷ []) left),
      fields_more done e own so_far,
    )

pub returns : goal.returns
returns c same =
    let (done, whole, so_far) = c.loop-name.invariant in
    let all : c.args.table.now.entries ≡ done = whole ∙ ap (λ es. done ++ es) c.in-None.ensures.steps.0
    ∙ append-nil done in
    subst AreFields (sym all) so_far
