-- What a tree means, from the answers for its predicates (Rust Reference, "Conditional compilation").
use Rattle.std.specs.Prelude.{◌≡◌, ℕ, List, [], ◌∷◌, ◌++◌}
use Rattle.cc2_cfg.specs.Grammar.{Tree, Trees, Flag, Pair, AllOf, AnyOf, NotOf, NoTrees, MoreTrees}

-- the operations of a logic
pub record Operations (T : Type 0) : Type 0 where
  pub top : T
  pub bottom : T
  pub conj : T → T → T
  pub disj : T → T → T
  pub neg : T → T

-- its laws
pub record IsLogic {T : Type 0} (o : Operations T) : Type 0 where
  pub conj_commutes : (x y : T) → o.conj x y ≡ o.conj y x
  pub conj_groups : (x y z : T) → o.conj (o.conj x y) z ≡ o.conj x (o.conj y z)
  pub conj_top : (x : T) → o.conj o.top x ≡ x
  pub disj_commutes : (x y : T) → o.disj x y ≡ o.disj y x
  pub disj_groups : (x y z : T) → o.disj (o.disj x y) z ≡ o.disj x (o.disj y z)
  pub disj_bottom : (x : T) → o.disj o.bottom x ≡ x

-- a predicate, without where its texts lie
pub data Atom : Type 0 where
  FlagAtom : List ℕ → Atom
  PairAtom : List ℕ → List ℕ → Atom

abbrev mutual
  -- a tree's predicates, in source order
  pub predicates_of : Tree → List Atom
  predicates_of (Flag w) = FlagAtom w ∷ []
  predicates_of (Pair key value) = PairAtom key value ∷ []
  predicates_of (AllOf trees) = predicates_in trees
  predicates_of (AnyOf trees) = predicates_in trees
  predicates_of (NotOf tree) = predicates_of tree

  pub predicates_in : Trees → List Atom
  predicates_in NoTrees = []
  predicates_in (MoreTrees tree trees) = predicates_of tree ++ predicates_in trees

module _ {T : Type 0} (o : Operations T) (answers : Atom → T) where
  abbrev mutual
    pub meaning : Tree → T
    meaning (Flag w) = answers (FlagAtom w)
    meaning (Pair key value) = answers (PairAtom key value)
    meaning (AllOf trees) = conj_from o.top trees
    meaning (AnyOf trees) = disj_from o.bottom trees
    meaning (NotOf tree) = o.neg (meaning tree)

    pub conj_from : T → Trees → T
    conj_from x NoTrees = x
    conj_from x (MoreTrees tree trees) = conj_from (o.conj x (meaning tree)) trees

    pub disj_from : T → Trees → T
    disj_from x NoTrees = x
    disj_from x (MoreTrees tree trees) = disj_from (o.disj x (meaning tree)) trees
