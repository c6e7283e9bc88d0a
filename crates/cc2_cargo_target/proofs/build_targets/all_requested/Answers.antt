use Rattle.std.proofs.Common.{◌+◌, [], ◌∷◌, drop, map, string_bytes, sym, ap, ◌∙◌}
use Rattle.std.proofs.lemmas.List.{map-append}
use Rattle.cc2_cargo_target.specs.Shown.{requested_view}
use Rattle.cc2_cargo_target.specs.Targets.{all_requested, requested_then}
use Rattle.cc2_cargo_target.proofs.Requesting.{one_requested}
use Rattle.cc2_cargo_target.proofs.build_targets.all_requested.Goals as goal

pub loop-text-preserved : goal.loop-text-preserved
loop-text-preserved c =
    let texts = c.args.texts.now in
    let done = c.loop-text.all.items in
    let r = c.in_ok-request_of.field-0 in
    one_requested texts c.loop-text.text-index _ (all_requested (map string_bytes texts)) (map requested_view done) c.as_str.result.now (requested_view r)
    c.loop-text-test.true (c.as_str.ensures.value ∙ ap string_bytes c.text-item.is) c.in_ok-request_of.ensures c.loop-text.invariant
    ∙ ap (λ rs. requested_then rs (all_requested (map string_bytes (drop (c.loop-text.text-index + 1) texts))))
    (sym (ap (map requested_view) c.in_ok-push.ensures.items ∙ map-append requested_view done (r ∷ [])))
