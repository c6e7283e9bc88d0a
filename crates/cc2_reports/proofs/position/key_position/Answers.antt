use Rattle.std.proofs.Common.{◌≡◌, ◌∙◌, ◌-◌, IfSome, Some, ap, length, map, option_map, slice_get, string_bytes, subst, sym}
use Rattle.std.proofs.lemmas.Option.{slice_get-map}
use Rattle.std.proofs.lemmas.List.{length-map}
use Rattle.cc2_reports.specs.Scanning.{IsPlace}
use Rattle.cc2_reports.proofs.Positions.{position_at}
use Rattle.cc2_reports.specs.Positions.{last_of, source_text}
use Rattle.cc2_reports.proofs.position.key_position.Goals as goal

pub returns-in-Some-2 : goal.returns-in-Some-2
returns-in-Some-2 c =
    let keys = c.args.keys.now in
    let at : slice_get keys (length keys - 1) ≡ Some c.in-Some.key.now = sym c.in-Some.ensures.value in
    let last : last_of (map string_bytes keys) ≡ Some c.as_str.result.now =
    ap (λ n. slice_get (map string_bytes keys) (n - 1)) (length-map keys string_bytes)
    ∙ slice_get-map string_bytes keys (length keys - 1) ∙ ap (option_map string_bytes) at ∙ ap Some (sym c.as_str.ensures.value) in
    let place : IsPlace (source_text c.args.source.now) c.in-Some-2.place =
    subst (λ o. IfSome o (IsPlace (source_text c.args.source.now))) c.in-Some-2.is c.in_ok-place.ensures in
    position_at (source_text c.args.source.now) c.as_str.result.now (map string_bytes keys) c.position_at.result last (c.position_at.ensures place)
