use Rattle.std.proofs.Common.{[], sym, ap}
use Rattle.cc2_target_table.specs.Target.{target_at}
use Rattle.cc2_target.specs.Finding.{is_table}
use Rattle.cc2_target.proofs.Finds.{found_here, found_mark, found_through, found_no_front}
use Rattle.cc2_target.proofs.find.+find_below.Goals as goal

pub returns-in-Some-Table : goal.returns-in-Some-Table
returns-in-Some-Table t c =
    found_here (target_at c.args.table.now) c.args.rest.now c.in-Some-Table.inner
    (λ p. sym (rw c.in-Some-Table.field-0-is at c.in-Some-Table.ensures.cells p))

pub returns-in-Some-Undecoded : goal.returns-in-Some-Undecoded
returns-in-Some-Undecoded t c =
    found_mark (target_at c.args.table.now) c.args.rest.now
    (sym (rw c.in-Some-Undecoded.field-0-is at c.in-Some-Undecoded.ensures.cells []))

pub returns-in-Table : goal.returns-in-Table
returns-in-Table t c =
    found_through (target_at c.args.table.now) c.args.rest.now c.in-Some.first.now c.in-Some.rest.now
    c.in-Table.inner.now c.find_below.result (sym (c.in-None.ensures.cells [])) c.in-Some.ensures.0
    (λ p. sym (rw c.in-Table.is at c.in_ok-inner-in-Some.ensures.cells p)) c.find_below.ensures

pub returns-in-Undecoded : goal.returns-in-Undecoded
returns-in-Undecoded t c =
    found_no_front (target_at c.args.table.now) c.args.rest.now c.in-Some.first.now c.in-Some.rest.now
    (sym (c.in-None.ensures.cells [])) c.in-Some.ensures.0
    (ap is_table (sym (rw c.in-Undecoded.is at c.in_ok-inner-in-Some.ensures.cells [])))

pub returns-in_err-inner-in-Some : goal.returns-in_err-inner-in-Some
returns-in_err-inner-in-Some t c =
    rw c.from_residual.ensures
    (found_no_front (target_at c.args.table.now) c.args.rest.now c.in-Some.first.now c.in-Some.rest.now
    (sym (c.in-None.ensures.cells [])) c.in-Some.ensures.0
    (ap is_table (sym (c.in_err-inner-in-Some.ensures.cells []))))
