use Rattle.std.proofs.Common.{◌≡◌, ◌∙◌, ◌+◌, ◌<◌, ap, get_or, length, drop, arith, subst, sym}
use Rattle.std.proofs.lemmas.List.{get_or-drop, get_or-take, length-take, length-drop}
use Rattle.cc2_reports.proofs.Locations.{location_behind}
use Rattle.cc2_reports.specs.Locations.{IsLocation}
use Rattle.cc2_reports.proofs.location.Location.behind_all.Goals as goal

pub loop-byte-preserved : goal.loop-byte-preserved
loop-byte-preserved c = λ text long is same.
    let was = c.loop-byte.invariant text long is same in
    let bytes = c.args.bytes.now in
    let from = c.args.self.offset in
    let i = c.loop-byte.byte-index in
    let less : i < length bytes = c.loop-byte-test.true in
    let fits : from + i < length text =
    omega (arith, less, ap length same, length-take (length bytes) (drop from text), length-drop from text) in
    let at : get_or text c.loop-byte.here.offset 0 ≡ get_or bytes i 0 =
    ap (λ k. get_or text k 0) was.1 ∙ sym (get_or-drop from text i 0)
    ∙ sym (get_or-take (length bytes) (drop from text) i 0 less) ∙ ap (λ b. get_or b i 0) same in
    let is_next : IsLocation text c.behind-here.result =
    subst (IsLocation text) (sym c.behind-here.ensures) (location_behind text c.loop-byte.here (get_or bytes i 0) long was.0 (omega (arith, was.1, fits)) at) in
    (is_next, omega (arith, was.1, fits, long, ap (λ l. l.offset) c.behind-here.ensures))
