use Rattle.std.proofs.Common.{length, eqb, arith, ap, sym, ◌∙◌}
use Rattle.cc2_base.proofs.FileNames.{whole_without_dot, last_dot_at}
use Rattle.cc2_base.proofs.path.cut_at_dot.Goals as goal

pub returns-in-None : goal.returns-in-None
returns-in-None c = whole_without_dot c.args.name.now c.in-None.ensures.cases

pub returns-in-Some : goal.returns-in-Some
returns-in-Some c =
    let h = c.in-Some.ensures.cases in
    let parts = last_dot_at c.args.name.now h.0 h.1 h.2.0 h.2.1 (omega (arith, h.7)) in
    ap (λ l. eqb (length l) 0) (sym (h.3 ∙ parts.0)) ∙ sym c.is_empty.ensures ∙ c.if-is_empty.true

pub returns-in-Some-2 : goal.returns-in-Some-2
returns-in-Some-2 c =
    let h = c.in-Some.ensures.cases in
    let parts = last_dot_at c.args.name.now h.0 h.1 h.2.0 h.2.1 (omega (arith, h.7)) in
    let front = h.3 ∙ parts.0 in
    (ap (λ l. eqb (length l) 0) (sym front) ∙ sym c.is_empty.ensures ∙ c.if-is_empty.false, front, h.4 ∙ parts.1)
