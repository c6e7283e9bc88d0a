use Rattle.std.proofs.Common.{◌∙◌, map, option_map, string_bytes, sym, ap}
use Rattle.cc2_cli.specs.ShowFound.{as_found}
use Rattle.cc2_cli.specs.ShowTasks.{part_view}
use Rattle.cc2_cli.proofs.ShowFound.{found_twice, one_more}
use Rattle.cc2_cli.proofs.show.asked_of.Goals as goal

-- src/show.rt:115:21
pub returns-in-None : goal.returns-in-None
returns-in-None c =
    c.alone.ensures
    ∙ sym (found_twice c.args.dir.now (as_found c.loop-part.found) (map string_bytes c.loop-part.rest.now) (part_view c.in-Some.part)
    (map string_bytes c.in-Some.behind.now) c.in-Some.ensures.read (sym c.with_part.ensures ∙ ap (option_map as_found) c.in-None.is))
    ∙ c.loop-part.invariant

-- src/show.rt:112:5
pub loop-part-preserved : goal.loop-part-preserved
loop-part-preserved c =
    sym (one_more c.args.dir.now (as_found c.loop-part.found) (map string_bytes c.loop-part.rest.now) (as_found c.in-Some-with_part.more) (part_view c.in-Some.part)
    (map string_bytes c.in-Some.behind.now) c.in-Some.ensures.read (sym c.with_part.ensures ∙ ap (option_map as_found) c.in-Some-with_part.is))
    ∙ c.loop-part.invariant
