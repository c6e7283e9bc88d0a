-- The tree of a table: its rows are read from the last to the first, and a function takes the trees that come before its end.
use Rattle.std.specs.Prelude.{ℕ, ◌+◌, ◌-◌, nat_lt, cond, List, [], ◌∷◌, map}
use Rattle.cc2_cfg.specs.Tokens.{OpAll, OpAny, OpNot}
use Rattle.cc2_cfg.specs.Grammar.{Tree, Trees, Flag, Pair, AllOf, AnyOf, NotOf, NoTrees, MoreTrees}
use Rattle.cc2_cfg.specs.Meaning.{FlagAtom, PairAtom}
use Rattle.cc2_cfg.specs.Table.{Row, Label, Leaf, Group, row_of, tree_size}
use Rattle.cc2_cfg.specs.declared.expression.Node.{Node}

-- the first trees, that fill n rows
abbrev pub taken : ℕ → Trees → Trees
taken n NoTrees = NoTrees
taken n (MoreTrees tree trees) = cond (nat_lt 0 n) (MoreTrees tree (taken (n - tree_size tree) trees)) NoTrees

-- the trees after those
abbrev pub left : ℕ → Trees → Trees
left n NoTrees = NoTrees
left n (MoreTrees tree trees) = cond (nat_lt 0 n) (left (n - tree_size tree) trees) (MoreTrees tree trees)

-- the first tree, and any tree where there is none
abbrev pub first_tree : Trees → Tree
first_tree NoTrees = AllOf NoTrees
first_tree (MoreTrees tree trees) = tree

-- what is built here: n is how many rows the function has below it
abbrev pub plant : Label → ℕ → Trees → Trees
plant (Leaf (FlagAtom word)) n trees = MoreTrees (Flag word) trees
plant (Leaf (PairAtom key value)) n trees = MoreTrees (Pair key value) trees
plant (Group OpAll) n trees = MoreTrees (AllOf (taken n trees)) (left n trees)
plant (Group OpAny) n trees = MoreTrees (AnyOf (taken n trees)) (left n trees)
plant (Group OpNot) n trees = MoreTrees (NotOf (first_tree (taken n trees))) (left n trees)

-- the trees of these rows, of which the first is at this place
abbrev pub forest : List Row → ℕ → Trees
forest [] at = NoTrees
forest (row ∷ rest) at = plant row.label (row.end - (at + 1)) (forest rest (at + 1))

unfoldable pub tree_from : List Node → Tree
tree_from nodes = first_tree (forest (map row_of nodes) 0)
