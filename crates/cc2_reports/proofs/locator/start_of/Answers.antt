use Rattle.std.proofs.Common.{◌∙◌, ap, sym, subst, ◌≤◌, length}
use Rattle.cc2_reports.proofs.Locations.{location_start}
use Rattle.cc2_reports.specs.Locations.{IsLocation}
use Rattle.cc2_reports.proofs.locator.start_of.Goals as goal

pub returns-clause-location : goal.returns-clause-location
returns-clause-location c =
    let text = c.args.text.now in
    let mark = c.mark_length.ensures.mark in
    subst (IsLocation text) (sym (c.start.ensures ∙ ap (λ n. record { offset = n; line = 1; column = 1 }) mark))
    (location_start text (subst (λ n. n ≤ length text) mark c.mark_length.ensures.within))
