use Rattle.std.proofs.Common.{◌≡◌, ◌<◌, ◌≤◌, length, arith, sym, ap, ◌∙◌, inr, None, map, string_bytes}
use Rattle.std.proofs.lemmas.Bool.{eqb-false}
use Rattle.std.proofs.lemmas.List.{length-map}
use Rattle.cc2_rustc.specs.Printed.{atoms_of}
use Rattle.cc2_rustc.specs.Readings.{cfg_answer}
use Rattle.cc2_rustc.specs.Values.{values_of}
use Rattle.cc2_rustc.proofs.Answering.{answer-many, answer-unread}
use Rattle.cc2_rustc.proofs.cfg.cfg_answer.Goals as goal

pub returns-then-len-MAX : goal.returns-then-len-MAX
returns-then-len-MAX g c = λ reading told.
    let name = g.C.Cfg.named in
    let most = g.C.Cfg.MAX in
    let values = c.in_ok-values.values in
    let found = map string_bytes values.items in
    let is : found ≡ values_of name (atoms_of c.args.set.now) = rw c.name.ensures at c.in_ok-values.ensures.value in
    let size : length found ≡ length values.items = length-map values.items string_bytes in
    let many : most < length found = omega (arith, values.ok.0, c.if-len-MAX.true) in
    let same = ap (cfg_answer name most reading) (sym is) in
    inr (rw (c.in_ok-refused.ensures, c.name-then-len-MAX.ensures) (same ∙ answer-many _ _ reading found many))

pub returns : goal.returns
returns g c = λ reading told.
    let name = g.C.Cfg.named in
    let most = g.C.Cfg.MAX in
    let values = c.in_ok-values.values in
    let found = map string_bytes values.items in
    let is : found ≡ values_of name (atoms_of c.args.set.now) = rw c.name.ensures at c.in_ok-values.ensures.value in
    let size : length found ≡ length values.items = length-map values.items string_bytes in
    let ne = eqb-false _ 0 (sym c.if-is_empty.ensures) in
    let some : 0 < length found = omega (arith, values.ok.0, ne) in
    let few : length found ≤ most = omega (arith, values.ok.0, c.if-len-MAX.false) in
    let read = rw c.in-Err-Unreadable.field-0-is at (c.in-Err-Unreadable.ensures reading told) in
    let unread : reading.read found ≡ None = rw c.as_slice.ensures.value at read in
    let same = ap (cfg_answer name most reading) (sym is) in
    inr (rw (c.in_ok-refused-in-Err-Unreadable.ensures, c.name-in-Err-Unreadable.ensures)
    (same ∙ answer-unread _ _ reading found some few unread))
