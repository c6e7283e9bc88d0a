-- The table of a tree: its nodes in source order, each with the place after its last descendant.
use Rattle.std.specs.Prelude.{◌≡◌, ℕ, ◌+◌, List, [], ◌∷◌, ◌++◌, map, Option, Some, None}
use Rattle.std.specs.String.{string_bytes}
use Rattle.cc2_cfg.specs.Tokens.{Operator, OpAll, OpAny, OpNot}
use Rattle.cc2_cfg.specs.Grammar.{Tree, Trees, Flag, Pair, AllOf, AnyOf, NotOf, NoTrees, MoreTrees}
use Rattle.cc2_cfg.specs.Meaning.{Atom, FlagAtom, PairAtom}
use Rattle.cc2_cfg.specs.declared.expression.Node.{Node}
use Rattle.cc2_cfg.specs.declared.expression.Kind.{Kind}
use Rattle.cc2_cfg.specs.declared.expression.Kind.TheVariants as kind
use Rattle.cc2_cfg.specs.declared.expression.Func.{Func}
use Rattle.cc2_cfg.specs.declared.expression.Func.TheVariants as func
use Rattle.cc2_cfg.specs.declared.expression.Predicate.{Predicate}
use Rattle.cc2_cfg.specs.declared.expression.Predicate.TheVariants as predicate
use Rattle.cc2_cfg.specs.declared.expression.Part.{Part}
use Rattle.cc2_cfg.specs.declared.expression.Part.TheVariants as part

-- what a node is
pub data Label : Type 0 where
  Leaf : Atom → Label
  Group : Operator → Label

pub record Row : Type 0 where
  pub label : Label
  pub end : ℕ

abbrev pub leaf_label : Label → Option Atom
leaf_label (Leaf atom) = Some atom
leaf_label (Group operator) = None

-- the predicate of a row, where it has one
abbrev pub leaf_of : Row → Option Atom
leaf_of row = leaf_label row.label

abbrev pub operator_of : Func → Operator
operator_of func.All = OpAll
operator_of func.Any = OpAny
operator_of func.Not = OpNot

abbrev pub label_of : Kind → Label
label_of (kind.Flag key) = Leaf (FlagAtom (string_bytes key))
label_of (kind.Pair key value) = Leaf (PairAtom (string_bytes key) (string_bytes value))
label_of (kind.Function f) = Group (operator_of f)

abbrev pub row_of : Node → Row
row_of n = record { label = label_of n.kind; end = n.end }

abbrev pub atom_of : Predicate → Atom
atom_of (predicate.Flag key) = FlagAtom key.now
atom_of (predicate.KeyValue key val) = PairAtom key.now val.now

abbrev pub part_label : Part → Label
part_label (part.Leaf predicate) = Leaf (atom_of predicate)
part_label (part.Function f) = Group (operator_of f)

abbrev mutual
  pub tree_size : Tree → ℕ
  tree_size (Flag w) = 1
  tree_size (Pair key value) = 1
  tree_size (AllOf trees) = 1 + trees_size trees
  tree_size (AnyOf trees) = 1 + trees_size trees
  tree_size (NotOf tree) = 1 + tree_size tree

  pub trees_size : Trees → ℕ
  trees_size NoTrees = 0
  trees_size (MoreTrees tree trees) = tree_size tree + trees_size trees

abbrev mutual
  -- the rows of a tree, from a place on
  pub rows : Tree → ℕ → List Row
  rows (Flag w) at = record { label = Leaf (FlagAtom w); end = at + 1 } ∷ []
  rows (Pair key value) at = record { label = Leaf (PairAtom key value); end = at + 1 } ∷ []
  rows (AllOf trees) at = record { label = Group OpAll; end = at + (1 + trees_size trees) } ∷ rows_of trees (at + 1)
  rows (AnyOf trees) at = record { label = Group OpAny; end = at + (1 + trees_size trees) } ∷ rows_of trees (at + 1)
  rows (NotOf tree) at = record { label = Group OpNot; end = at + (1 + tree_size tree) } ∷ rows tree (at + 1)

  pub rows_of : Trees → ℕ → List Row
  rows_of NoTrees at = []
  rows_of (MoreTrees tree trees) at = rows tree at ++ rows_of trees (at + tree_size tree)

-- the nodes are the table of the tree
abbrev pub IsTable : List Node → Tree → Type 0
IsTable nodes tree = map row_of nodes ≡ rows tree 0
