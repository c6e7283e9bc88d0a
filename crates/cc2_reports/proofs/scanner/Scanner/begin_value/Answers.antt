use Rattle.std.proofs.Common.{◌≡◌, ◌<◌, get_or, length, refl, sym, subst, arith}
use Rattle.std.proofs.lemmas.List.Elements.{All-set}
use Rattle.cc2_reports.specs.Scanning.{IsPlace}
use Rattle.cc2_reports.proofs.scanner.Scanner.begin_value.Goals as goal

pub returns-in-Some-get_mut : goal.returns-in-Some-get_mut
returns-in-Some-get_mut c = λ text is.
    let place = c.in-Some-get_mut.place.now in
    let places = c.args.self.now.found.places.items in
    let last = c.in-Some.last in
    let item = c.in-Some-get_mut.ensures.item in
    let at : place ≡ get_or places last place = grind arith in
    let less : last < length places = grind arith in
    let was : IsPlace text place = subst (IsPlace text) (sym at) (is.found last place less) in (
      record {
        here = is.here;
        piece = is.piece;
        found = All-set (IsPlace text) places last _ (record { key = was.key; value = is.here }) is.found;
      },
      refl,
    )
