use Rattle.std.proofs.Common.{refl, sym, subst, All}
use Rattle.std.proofs.lemmas.List.Elements.{All-push}
use Rattle.cc2_reports.specs.Scanning.{IsPlace}
use Rattle.cc2_reports.proofs.scanner.Scanner.keep.Goals as goal

pub returns-in_ok-insert : goal.returns-in_ok-insert
returns-in_ok-insert c = λ text at order is. (
  record {
    here = is.here;
    piece = is.piece;
    found = subst (All (IsPlace text)) (sym c.in_ok-push.ensures.items)
        (All-push (IsPlace text) c.args.self.now.found.places.items _ is.found
        (record { key = record { start = at; end = is.here; order = order }; value = tt }));
  },
  refl,
)
