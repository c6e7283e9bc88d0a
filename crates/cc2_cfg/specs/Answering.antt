-- A closure that answers some predicates by a fixed map.
use Rattle.std.specs.Prelude.{◌≡◌, List, [], ◌∷◌, Contains}
use Rattle.std.specs.Fn.{Mut, Called}
use denote.Ref.{Bor}
use Rattle.cc2_cfg.specs.Meaning.{Atom}
use Rattle.cc2_cfg.specs.Table.{atom_of}
use Rattle.cc2_cfg.specs.declared.expression.Predicate.{Predicate}

module _ {F T : Type 0} (g : Mut F (Bor Predicate × Unit {0}) T) (asked : List Atom) (answers : Atom → T) where
  -- each of these calls in turn, from ask on, answers by the map, where all are at predicates of the list
  abbrev pub AnswersEach : F → List (Bor Predicate × Unit {0}) → Type 0
  AnswersEach ask [] = Unit {0}
  AnswersEach ask (a ∷ calls) = (r : T) (next : F) → Called g ask a r next → Contains asked (atom_of a.0.now) → (r ≡ answers (atom_of a.0.now)) × AnswersEach next calls

  -- and so any number of calls
  pub record AnswersBy (ask : F) : Type 0 where
    pub calls : (list : List (Bor Predicate × Unit {0})) → AnswersEach ask list
