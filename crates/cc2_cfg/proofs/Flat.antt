-- The table of an expression with no function inside of the outermost one.
use Rattle.std.proofs.Common.{◌≡◌, ℕ, zero, suc, ◌+◌, ◌-◌, ◌<◌, ◌≤◌, List, [], ◌∷◌, ◌++◌, length, get_or, drop, map, sym, ap, ◌∙◌, arith, subst}
use Rattle.std.proofs.lemmas.List.{drop-drop}
use Rattle.cc2_cfg.specs.Tokens.{Operator}
use Rattle.cc2_cfg.specs.Grammar.{Tree, Trees, Flag, Pair, AllOf, AnyOf, NotOf, NoTrees, MoreTrees}
use Rattle.cc2_cfg.specs.Flat.{IsLeaf, AreLeaves, IsFlat}
use Rattle.cc2_cfg.specs.Table.{Row, Group, label_of, row_of, rows, rows_of, tree_size, IsTable}
use Rattle.cc2_cfg.specs.declared.expression.Node.{Node}
use Rattle.cc2_cfg.proofs.Evaluation.{drop-row}

-- none of the rows is a function's
abbrev NoGroup : List Row → Type 0
NoGroup [] = Unit {0}
NoGroup (row ∷ rest) = ((h : Operator) → row.label ≡ Group h → ⊥) × NoGroup rest

leaf-rows : (tree : Tree) (at : ℕ) (rest : List Row) → IsLeaf tree → NoGroup rest → NoGroup (rows tree at ++ rest)
leaf-rows (Flag w) at rest leaf free = (λ h e. cc e, free)
leaf-rows (Pair key value) at rest leaf free = (λ h e. cc e, free)
leaf-rows (AllOf trees) at rest leaf free = absurd leaf
leaf-rows (AnyOf trees) at rest leaf free = absurd leaf
leaf-rows (NotOf tree) at rest leaf free = absurd leaf

leaves-rows : (trees : Trees) (at : ℕ) → AreLeaves trees → NoGroup (rows_of trees at)
leaves-rows NoTrees at leaves = tt
leaves-rows (MoreTrees tree trees) at leaves = leaf-rows tree at (rows_of trees (at + tree_size tree)) leaves.0 (leaves-rows trees (at + tree_size tree) leaves.1)

leaf-alone : (tree : Tree) (at : ℕ) → IsLeaf tree → NoGroup (rows tree at)
leaf-alone (Flag w) at leaf = (λ h e. cc e, tt)
leaf-alone (Pair key value) at leaf = (λ h e. cc e, tt)
leaf-alone (AllOf trees) at leaf = absurd leaf
leaf-alone (AnyOf trees) at leaf = absurd leaf
leaf-alone (NotOf tree) at leaf = absurd leaf

flat-tail : (tree : Tree) → IsFlat tree → NoGroup (drop 1 (rows tree 0))
flat-tail (Flag w) flat = tt
flat-tail (Pair key value) flat = tt
flat-tail (AllOf trees) flat = leaves-rows trees 1 flat
flat-tail (AnyOf trees) flat = leaves-rows trees 1 flat
flat-tail (NotOf tree) flat = leaf-alone tree 1 flat

no-group-drop : (k : ℕ) (xs : List Row) → NoGroup xs → NoGroup (drop k xs)
no-group-drop zero xs free = free
no-group-drop (suc k) [] free = tt
no-group-drop (suc k) (x ∷ xs) free = no-group-drop k xs free.1

-- no function follows the first row
pub flat-leaf : (nodes : List Node) (tree : Tree) (i : ℕ) (n : Node) (h : Operator) → IsTable nodes tree → IsFlat tree → 1 ≤ i → i < length nodes → n ≡ get_or nodes i n
    → label_of n.kind ≡ Group h → ⊥
flat-leaf nodes tree i n h table flat some lt is label =
    let tail : NoGroup (drop 1 (map row_of nodes)) = subst (λ (z : List Row). NoGroup (drop 1 z)) (sym table) (flat-tail tree flat) in
    let k : 1 + (i - 1) ≡ i = omega arith in
    let here : NoGroup (drop i (map row_of nodes)) = subst (λ (z : List Row). NoGroup z)
    (drop-drop (i - 1) 1 (map row_of nodes) ∙ ap (λ (m : ℕ). drop m (map row_of nodes)) k) (no-group-drop (i - 1) (drop 1 (map row_of nodes)) tail) in
    let row : NoGroup (row_of n ∷ drop (i + 1) (map row_of nodes)) = subst (λ (z : List Row). NoGroup z) (drop-row nodes i n lt is) here in
    row.0 h label
