use Rattle.std.proofs.Common.{◌≡◌, ◌∙◌, ap, arith, sym, subst, suc}
use Rattle.std.proofs.lemmas.Option.{get_or_from_slice_get, slice_get_within}
use Rattle.cc2_reports.proofs.Locations.{location_behind}
use Rattle.cc2_reports.specs.Locations.{IsLocation, counted}
use Rattle.cc2_reports.specs.Scanning.{behind}
use Rattle.cc2_reports.proofs.scanner.Scanner.step.Goals as goal

pub returns : goal.returns
returns c = λ text long is at.
    let was = c.args.self.now.here in
    let less = slice_get_within text was.offset c.args.byte at in
    let next : IsLocation text (behind was c.args.byte) =
    location_behind text was c.args.byte long is.here less (get_or_from_slice_get text was.offset c.args.byte 0 at) in
    let kept = c.in_ok-read.ensures text next is in
    let here : c.behind-self.result ≡ behind was c.args.byte = c.behind-self.ensures ∙ ap (λ l. behind l c.args.byte) kept.1 in
    let more : counted (suc was.offset) ≡ suc was.offset = omega arith in
    (record { here = subst (IsLocation text) (sym here) next; piece = kept.0.piece; found = kept.0.found }, ap (λ l. l.offset) here ∙ more)
