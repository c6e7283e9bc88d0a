-- Expressions with no function inside of the outermost one.
use Rattle.cc2_cfg.specs.Grammar.{Tree, Trees, Flag, Pair, AllOf, AnyOf, NotOf, NoTrees, MoreTrees}

abbrev pub IsLeaf : Tree → Type 0
IsLeaf (Flag w) = Unit {0}
IsLeaf (Pair key value) = Unit {0}
IsLeaf (AllOf trees) = ⊥
IsLeaf (AnyOf trees) = ⊥
IsLeaf (NotOf tree) = ⊥

abbrev pub AreLeaves : Trees → Type 0
AreLeaves NoTrees = Unit {0}
AreLeaves (MoreTrees tree trees) = IsLeaf tree × AreLeaves trees

-- a predicate, or a function of predicates
abbrev pub IsFlat : Tree → Type 0
IsFlat (Flag w) = Unit {0}
IsFlat (Pair key value) = Unit {0}
IsFlat (AllOf trees) = AreLeaves trees
IsFlat (AnyOf trees) = AreLeaves trees
IsFlat (NotOf tree) = IsLeaf tree
