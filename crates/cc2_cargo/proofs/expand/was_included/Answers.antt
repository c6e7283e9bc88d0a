use Rattle.std.proofs.Common.{true, cond, map, bytes_eq, ap, ◌∙◌}
use Rattle.std.proofs.lemmas.Map.Text.{btree_set_updates_text}
use Rattle.std.specs.BTreeSet.{contains_text}
use Rattle.cc2_cargo.specs.Expanding.{config_file}
use Rattle.cc2_cargo.proofs.Marking.{marked_more}
use Rattle.cc2_cargo.proofs.expand.was_included.Goals as goal

pub returns-then-branch-clause-marked : goal.returns-then-branch-clause-marked
returns-then-branch-clause-marked c =
    marked_more c.args.marks.now c.insert.new.self (map config_file c.args.read.now) c.args.path.now c.requires
    (λ mark. btree_set_updates_text _ c.args.marks.now c.insert.new.self true c.in_ok-insert.ensures.updates mark
    ∙ ap (λ bytes. cond (bytes_eq bytes mark) true (contains_text c.args.marks.now mark)) c.in_ok-mark.ensures)

pub returns-clause-marked : goal.returns-clause-marked
returns-clause-marked c =
    marked_more c.args.marks.now c.insert.new.self (map config_file c.args.read.now) c.args.path.now c.requires
    (λ mark. btree_set_updates_text _ c.args.marks.now c.insert.new.self true c.in_ok-insert.ensures.updates mark
    ∙ ap (λ bytes. cond (bytes_eq bytes mark) true (contains_text c.args.marks.now mark)) c.in_ok-mark.ensures)
