-- The tree of a tree's table is that tree.
use Rattle.std.proofs.Common.{◌≡◌, ℕ, ◌+◌, ◌-◌, ◌<◌, List, [], ◌++◌, refl, sym, ap, ◌∙◌, arith, append_assoc, append-nil, map}
use Rattle.std.specs.Prelude.{nat_lt, true, cond}
use Rattle.std.proofs.lemmas.Bool.Decides.{nat_tests}
use Rattle.cc2_cfg.specs.Tokens.{OpAll, OpAny, OpNot}
use Rattle.cc2_cfg.specs.Grammar.{Tree, Trees, Flag, Pair, AllOf, AnyOf, NotOf, NoTrees, MoreTrees}
use Rattle.cc2_cfg.specs.Table.{Row, Group, row_of, rows, rows_of, tree_size, trees_size, IsTable}
use Rattle.cc2_cfg.specs.Planting.{taken, left, first_tree, plant, forest, tree_from}
use Rattle.cc2_cfg.specs.declared.expression.Node.{Node}
use Rattle.cc2_cfg.proofs.Evaluation.{tree-some}

abbrev pub joined : Trees → Trees → Trees
joined NoTrees more = more
joined (MoreTrees tree trees) more = MoreTrees tree (joined trees more)

some : (n : ℕ) → 0 < n → nat_lt 0 n ≡ true
some n h = grind (arith, nat_tests)

taken-zero : (trees : Trees) → taken 0 trees ≡ NoTrees
taken-zero NoTrees = refl
taken-zero (MoreTrees tree trees) = refl

left-zero : (trees : Trees) → left 0 trees ≡ trees
left-zero NoTrees = refl
left-zero (MoreTrees tree trees) = refl

taken-joined : (trees more : Trees) → taken (trees_size trees) (joined trees more) ≡ trees
taken-joined NoTrees more = taken-zero more
taken-joined (MoreTrees tree trees) more =
    let n = tree_size tree + trees_size trees in
    let rest : n - tree_size tree ≡ trees_size trees = omega arith in
    let positive : 0 < n = omega (arith, tree-some tree) in
    ap (λ b. cond b (MoreTrees tree (taken (n - tree_size tree) (joined trees more))) NoTrees) (some n positive)
    ∙ ap (λ (k : ℕ). MoreTrees tree (taken k (joined trees more))) rest ∙ ap (λ (z : Trees). MoreTrees tree z) (taken-joined trees more)

left-joined : (trees more : Trees) → left (trees_size trees) (joined trees more) ≡ more
left-joined NoTrees more = left-zero more
left-joined (MoreTrees tree trees) more =
    let n = tree_size tree + trees_size trees in
    let rest : n - tree_size tree ≡ trees_size trees = omega arith in
    let positive : 0 < n = omega (arith, tree-some tree) in
    ap (λ b. cond b (left (n - tree_size tree) (joined trees more)) (MoreTrees tree (joined trees more))) (some n positive)
    ∙ ap (λ (k : ℕ). left k (joined trees more)) rest ∙ left-joined trees more

mutual
  pub forest-rows : (tree : Tree) (at : ℕ) (rest : List Row) → forest (rows tree at ++ rest) at ≡ MoreTrees tree (forest rest (at + tree_size tree))
  forest-rows (Flag w) at rest = refl
  forest-rows (Pair k v) at rest = refl
  forest-rows (AllOf trees) at rest =
      let n : (at + (1 + trees_size trees)) - (at + 1) ≡ trees_size trees = omega arith in
      let m : (at + 1) + trees_size trees ≡ at + (1 + trees_size trees) = omega arith in
      let more = forest rest (at + (1 + trees_size trees)) in
      ap (λ (k : ℕ). plant (Group OpAll) k (forest (rows_of trees (at + 1) ++ rest) (at + 1))) n
      ∙ ap (λ (z : Trees). plant (Group OpAll) (trees_size trees) z) (forest-rows_of trees (at + 1) rest ∙ ap (λ (k : ℕ). joined trees (forest rest k)) m)
      ∙ ap (λ (z : Trees). MoreTrees (AllOf z) (left (trees_size trees) (joined trees more))) (taken-joined trees more)
      ∙ ap (λ (z : Trees). MoreTrees (AllOf trees) z) (left-joined trees more)
  forest-rows (AnyOf trees) at rest =
      let n : (at + (1 + trees_size trees)) - (at + 1) ≡ trees_size trees = omega arith in
      let m : (at + 1) + trees_size trees ≡ at + (1 + trees_size trees) = omega arith in
      let more = forest rest (at + (1 + trees_size trees)) in
      ap (λ (k : ℕ). plant (Group OpAny) k (forest (rows_of trees (at + 1) ++ rest) (at + 1))) n
      ∙ ap (λ (z : Trees). plant (Group OpAny) (trees_size trees) z) (forest-rows_of trees (at + 1) rest ∙ ap (λ (k : ℕ). joined trees (forest rest k)) m)
      ∙ ap (λ (z : Trees). MoreTrees (AnyOf z) (left (trees_size trees) (joined trees more))) (taken-joined trees more)
      ∙ ap (λ (z : Trees). MoreTrees (AnyOf trees) z) (left-joined trees more)
  forest-rows (NotOf tree) at rest =
      let one = MoreTrees tree NoTrees in
      let n : (at + (1 + tree_size tree)) - (at + 1) ≡ trees_size one = omega arith in
      let m : (at + 1) + tree_size tree ≡ at + (1 + tree_size tree) = omega arith in
      let more = forest rest (at + (1 + tree_size tree)) in
      ap (λ (k : ℕ). plant (Group OpNot) k (forest (rows tree (at + 1) ++ rest) (at + 1))) n
      ∙ ap (λ (z : Trees). plant (Group OpNot) (trees_size one) z) (forest-rows tree (at + 1) rest ∙ ap (λ (k : ℕ). MoreTrees tree (forest rest k)) m)
      ∙ ap (λ (z : Trees). MoreTrees (NotOf (first_tree z)) (left (trees_size one) (joined one more))) (taken-joined one more)
      ∙ ap (λ (z : Trees). MoreTrees (NotOf tree) z) (left-joined one more)

  pub forest-rows_of : (trees : Trees) (at : ℕ) (rest : List Row) → forest (rows_of trees at ++ rest) at ≡ joined trees (forest rest (at + trees_size trees))
  forest-rows_of NoTrees at rest = ap (λ (k : ℕ). forest rest k) (omega arith)
  forest-rows_of (MoreTrees tree trees) at rest =
      let m : (at + tree_size tree) + trees_size trees ≡ at + (tree_size tree + trees_size trees) = omega arith in
      ap (λ (z : List Row). forest z at) (append_assoc (rows tree at) (rows_of trees (at + tree_size tree)) rest)
      ∙ forest-rows tree at (rows_of trees (at + tree_size tree) ++ rest)
      ∙ ap (λ (z : Trees). MoreTrees tree z) (forest-rows_of trees (at + tree_size tree) rest ∙ ap (λ (k : ℕ). joined trees (forest rest k)) m)

-- the nodes of a tree's table are planted as that tree
pub tree_from-table : (nodes : List Node) (tree : Tree) → IsTable nodes tree → tree_from nodes ≡ tree
unfolding tree_from
tree_from-table nodes tree h =
    ap (λ (z : List Row). first_tree (forest z 0)) (h ∙ sym (append-nil (rows tree 0))) ∙ ap first_tree (forest-rows tree 0 [])

-- nodes with the same rows
pub tree_from-same : (nodes others : List Node) → map row_of nodes ≡ map row_of others → tree_from nodes ≡ tree_from others
unfolding tree_from
tree_from-same nodes others e = ap (λ (z : List Row). first_tree (forest z 0)) e

pub table-same : (nodes others : List Node) → map row_of nodes ≡ map row_of others → IsTable others (tree_from others) → IsTable nodes (tree_from nodes)
table-same nodes others e h = e ∙ h ∙ ap (λ (z : Tree). rows z 0) (sym (tree_from-same nodes others e))

pub table-planted : (nodes : List Node) (tree : Tree) → IsTable nodes tree → IsTable nodes (tree_from nodes)
table-planted nodes tree h = h ∙ ap (λ (z : Tree). rows z 0) (sym (tree_from-table nodes tree h))
