use Rattle.std.proofs.Common.{◌++◌, map, flat_map, string_bytes, ap, sym, ◌∙◌, append_assoc}
use Rattle.cc2_base.specs.PathSteps.{ancestors_left}
use Rattle.cc2_ask.specs.Needs.{files_below}
use Rattle.cc2_ask.proofs.candidates.push_above.Goals as goal

pub loop-above-preserved : goal.loop-above-preserved
loop-above-preserved c =
    let before = map string_bytes c.loop-above.paths.items in
    let rest = flat_map files_below (ancestors_left c.next.new.self) in
    ap (λ ps. ps ++ rest) c.in_ok-push_two.ensures
    ∙ append_assoc before (files_below c.in-Some.above.now) rest
    ∙ ap (λ ps. before ++ flat_map files_below ps) (sym c.in-Some.ensures.steps)
    ∙ c.loop-above.invariant
