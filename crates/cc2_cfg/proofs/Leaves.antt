-- The predicates of a table's rows are those of the tree.
use Rattle.std.proofs.Common.{◌≡◌, ℕ, zero, suc, ◌+◌, ◌<◌, List, [], ◌∷◌, ◌++◌, length, get_or, map, refl, sym, ap, ◌∙◌, arith, subst, Option, Some, None}
use Rattle.std.specs.Prelude.{filter_map, Contains}
use Rattle.std.specs.List.{cons_option}
use Rattle.std.specs.Fn.{Mut, Called}
use denote.Ref.{Bor}
use Rattle.std.proofs.lemmas.List.Elements.{filter_map-append, Contains-append_right}
use Rattle.cc2_cfg.specs.Grammar.{Tree, Trees, Flag, Pair, AllOf, AnyOf, NotOf, NoTrees, MoreTrees}
use Rattle.cc2_cfg.specs.Meaning.{Atom, predicates_of, predicates_in}
use Rattle.cc2_cfg.specs.Table.{Row, Label, Leaf, label_of, row_of, rows, rows_of, leaf_of, tree_size, atom_of, IsTable}
use Rattle.cc2_cfg.specs.Answering.{AnswersBy}
use Rattle.cc2_cfg.specs.declared.expression.Node.{Node}
use Rattle.cc2_cfg.specs.declared.expression.Predicate.{Predicate}

mutual
  pub leaves-rows : (tree : Tree) (at : ℕ) → filter_map leaf_of (rows tree at) ≡ predicates_of tree
  leaves-rows (Flag w) at = refl
  leaves-rows (Pair k v) at = refl
  leaves-rows (AllOf trees) at = leaves-rows_of trees (at + 1)
  leaves-rows (AnyOf trees) at = leaves-rows_of trees (at + 1)
  leaves-rows (NotOf tree) at = leaves-rows tree (at + 1)

  pub leaves-rows_of : (trees : Trees) (at : ℕ) → filter_map leaf_of (rows_of trees at) ≡ predicates_in trees
  leaves-rows_of NoTrees at = refl
  leaves-rows_of (MoreTrees tree trees) at =
      filter_map-append leaf_of (rows tree at) (rows_of trees (at + tree_size tree))
      ∙ ap (λ (z : List Atom). z ++ filter_map leaf_of (rows_of trees (at + tree_size tree))) (leaves-rows tree at)
      ∙ ap (λ (z : List Atom). predicates_of tree ++ z) (leaves-rows_of trees (at + tree_size tree))

-- the predicates of a table
pub leaves-table : (nodes : List Node) (tree : Tree) → IsTable nodes tree → filter_map leaf_of (map row_of nodes) ≡ predicates_of tree
leaves-table nodes tree h = ap (λ (z : List Row). filter_map leaf_of z) h ∙ leaves-rows tree 0

behind : {A : Type 0} (o : Option A) (xs : List A) (a : A) → Contains xs a → Contains (cons_option o xs) a
behind None xs a h = h
behind (Some b) xs a h = Contains-append_right (b ∷ []) xs a h

-- a leaf is one of them
leaf-there : (nodes : List Node) (i : ℕ) (n : Node) (a : Atom) → i < length nodes → n ≡ get_or nodes i n → label_of n.kind ≡ Leaf a → Contains (filter_map leaf_of (map row_of nodes)) a
leaf-there [] i n a lt is label = absurd (omega arith)
leaf-there (x ∷ nodes) zero n a lt is label =
    let e : label_of x.kind ≡ Leaf a = ap (λ (z : Node). label_of z.kind) (sym is) ∙ label in
    subst (λ (z : Label). Contains (filter_map leaf_of (record { label = z; end = x.end } ∷ map row_of nodes)) a) (sym e) (0, omega arith, refl)
leaf-there (x ∷ nodes) (suc i) n a lt is label = behind (leaf_of (row_of x)) (filter_map leaf_of (map row_of nodes)) a (leaf-there nodes i n a (omega arith) is label)

pub leaf-among : (nodes : List Node) (tree : Tree) (i : ℕ) (n : Node) (a : Atom) → IsTable nodes tree → i < length nodes → n ≡ get_or nodes i n → label_of n.kind ≡ Leaf a
    → Contains (predicates_of tree) a
leaf-among nodes tree i n a table lt is label = subst (λ (z : List Atom). Contains z a) (leaves-table nodes tree table) (leaf-there nodes i n a lt is label)

-- a call at one of the predicates
pub answered : {F T : Type 0} (g : Mut F (Bor Predicate × Unit {0}) T) (asked : List Atom) (answers : Atom → T) (ask next : F) (a : Bor Predicate × Unit {0}) (r : T)
    → AnswersBy g asked answers ask → Called g ask a r next → Contains asked (atom_of a.0.now) → (r ≡ answers (atom_of a.0.now)) × AnswersBy g asked answers next
answered g asked answers ask next a r h called among =
    ((h.calls (a ∷ []) r next called among).0, record { calls = λ list. (h.calls (a ∷ list) r next called among).1 })
