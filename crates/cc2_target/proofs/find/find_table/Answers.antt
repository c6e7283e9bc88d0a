use Rattle.std.proofs.Common.{[], sym, ap}
use Rattle.cc2_value.specs.Shown.{map_at, option_at}
use Rattle.cc2_target_table.specs.Target.{target_at}
use Rattle.cc2_target.specs.Finding.{is_table}
use Rattle.cc2_target.proofs.Finds.{found_here, found_through, found_no_front}
use Rattle.cc2_target.proofs.find.find_table.Goals as goal

pub returns-in-Some : goal.returns-in-Some
returns-in-Some c =
    found_here (map_at target_at c.args.tables.now) c.args.triple.now c.in-Some.table
    (λ p. ap (λ o. option_at target_at o p) (sym c.in-Some.ensures.value))

pub returns-in-None-get : goal.returns-in-None-get
returns-in-None-get c =
    found_no_front (map_at target_at c.args.tables.now) c.args.triple.now c.in-Some-cut_at_dot.first.now
    c.in-Some-cut_at_dot.rest.now (ap (λ o. option_at target_at o []) (sym c.in-None.ensures.value))
    c.in-Some-cut_at_dot.ensures.0 (ap (λ o. is_table (option_at target_at o [])) (sym c.in-None-get.ensures.value))

pub returns-in-Some-get : goal.returns-in-Some-get
returns-in-Some-get c =
    found_through (map_at target_at c.args.tables.now) c.args.triple.now c.in-Some-cut_at_dot.first.now
    c.in-Some-cut_at_dot.rest.now c.in-Some-get.table.now c.find_below.result
    (ap (λ o. option_at target_at o []) (sym c.in-None.ensures.value)) c.in-Some-cut_at_dot.ensures.0
    (λ p. ap (λ o. option_at target_at o p) (sym c.in-Some-get.ensures.value)) c.find_below.ensures
