use Rattle.std.proofs.Common.{◌+◌, ◌-◌, ◌*◌, ◌≤◌, length, map, drop}
use Rattle.std.specs.Prelude.{reverse}
use denote.Param.Always.{always_mut}
use Rattle.cc2_cfg.specs.Answering.{AnswersBy}
use Rattle.cc2_cfg.specs.Shown.{tree_of}
use Rattle.cc2_cfg.specs.Meaning.{Atom, meaning, predicates_of}
use Rattle.cc2_cfg.specs.Table.{operator_of, row_of}
use Rattle.cc2_cfg.proofs.Pending.{Pending}
use Rattle.cc2_cfg.proofs.expression.Expression.evaluate.Given as goal

abbrev pub invariant-nodes : goal.invariant-nodes
invariant-nodes g l =
    always_mut g.F.FnMut l.ask
    × (1 ≤ l.at)
    × ((answers : Atom → _) → AnswersBy g.F.FnMut (predicates_of (tree_of l.self)) answers l.fn.ask
    → AnswersBy g.F.FnMut (predicates_of (tree_of l.self)) answers l.ask
    × Pending g.T.Logic.operations answers (reverse l.stack.items) (operator_of l.current.func) l.current.end l.current.value l.at
    (drop l.at (map row_of l.self.nodes.items)) (meaning g.T.Logic.operations answers (tree_of l.self)))

abbrev pub decreases-nodes : goal.decreases-nodes
decreases-nodes g l = 2 * (length l.self.nodes.items - l.at) + length l.stack.items
