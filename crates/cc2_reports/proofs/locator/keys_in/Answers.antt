use Rattle.std.proofs.Common.{◌≡◌, ◌∙◌, ◌≤◌, ◌<◌, ◌-◌, ◌^◌, ◌+◌, Some, ap, arith, drop, get_or, length, slice_get, subst, sym}
use Rattle.std.proofs.lemmas.List.{get_or-drop, length-drop}
use Rattle.std.proofs.lemmas.Option.{slice_get-get_or}
use Rattle.cc2_reports.specs.Scanning.{ArePlaces}
use Rattle.cc2_reports.proofs.locator.keys_in.Goals as goal

pub loop-byte-init : goal.loop-byte-init
loop-byte-init c =
    let new = c.new-scanner.ensures c.args.text.now c.start_of-start.ensures.location in
    (new.0, omega arith, c.bytes_from-byte-items.ensures ∙ ap (λ l. drop l.offset c.args.text.now) (sym new.1))

pub loop-byte-preserved : goal.loop-byte-preserved
loop-byte-preserved c =
    let text = c.args.text.now in
    let start = c.new-scanner.result.here.offset in
    let i = c.loop-byte.byte-index in
    let was = c.loop-byte.invariant in
    let rest = c.bytes_from-byte-items.result.now in
    let long : length text ≤ 2 ^ 64 - 1 = grind arith in
    let less : start + i < length text =
    omega (arith, c.loop-byte-test.true, ap length was.2, length-drop start text) in
    let same : get_or text (start + i) 0 ≡ get_or rest i 0 = sym (get_or-drop start text i 0) ∙ sym (ap (λ xs. get_or xs i 0) was.2) in
    let at : slice_get text c.loop-byte.scanner.here.offset ≡ Some (get_or rest i 0) =
    ap (slice_get text) was.1 ∙ slice_get-get_or text (start + i) 0 less ∙ ap Some same in
    let next = c.in_ok-step.ensures text long was.0 at in
    (next.0, omega (arith, next.1, was.1), was.2)

pub returns : goal.returns
returns c = subst (ArePlaces c.args.text.now) (sym c.into_found.ensures) c.loop-byte.invariant.0.found
