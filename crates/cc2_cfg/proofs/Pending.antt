-- Evaluating a table from left to right: the open functions, and what is left of the table.
use Rattle.std.specs.Prelude.{◌≡◌, ℕ, ◌+◌, List, [], ◌∷◌, ◌++◌}
use Rattle.cc2_cfg.specs.Tokens.{Operator}
use Rattle.cc2_cfg.specs.Grammar.{Trees, NoTrees, MoreTrees}
use Rattle.cc2_cfg.specs.Meaning.{Operations, Atom, meaning}
use Rattle.cc2_cfg.specs.Table.{Row, rows_of, trees_size, operator_of}
use Rattle.cc2_cfg.specs.Running.{add, closed}
use Rattle.cc2_cfg.specs.declared.evaluator.Open.{Open}

module _ {T : Type 0} (o : Operations T) (answers : Atom → T) where
  abbrev pub add_all : Operator → T → Trees → T
  add_all f x NoTrees = x
  add_all f x (MoreTrees tree trees) = add_all f (add o f x (meaning o answers tree)) trees

  -- a function ended with value y at this place: the rest of the table ends the outer ones, and the whole means v
  abbrev pub Outer : List (Open T) → T → ℕ → List Row → T → Type 0
  Outer [] y at rest v = (rest ≡ []) × (v ≡ y)
  Outer (g ∷ outer) y at rest v = (trees : Trees) × (later : List Row) × (rest ≡ rows_of trees at ++ later) × (g.end ≡ at + trees_size trees)
      × Outer outer (closed o (operator_of g.func) (add_all (operator_of g.func) (add o (operator_of g.func) g.value y) trees)) g.end later v

  -- the rest of the table ends the function f that is open up to end with value x, and then the outer ones
  abbrev pub Pending : List (Open T) → Operator → ℕ → T → ℕ → List Row → T → Type 0
  Pending outer f end x at rest v = (trees : Trees) × (later : List Row) × (rest ≡ rows_of trees at ++ later) × (end ≡ at + trees_size trees)
      × Outer outer (closed o f (add_all f x trees)) end later v
