-- A closure that answers every predicate by a fixed map.
use Rattle.std.specs.Prelude.{◌≡◌, List, [], ◌∷◌}
use Rattle.std.specs.Fn.{Mut, AlwaysReturns}
use denote.Ref.{Bor}
use Rattle.cc2_cfg.specs.Answering.{AnswersEach, AnswersBy}
use Rattle.cc2_cfg.specs.Meaning.{Atom}
use Rattle.cc2_cfg.specs.Table.{atom_of}
use Rattle.cc2_cfg.specs.declared.expression.Predicate.{Predicate}

-- any number of calls answer by it
pub answers_each : {F T : Type 0} (g : Mut F (Bor Predicate × Unit {0}) T) (asked : List Atom) (answers : Atom → T) (ask : F) (list : List (Bor Predicate × Unit {0}))
    → AlwaysReturns g (λ a r. r ≡ answers (atom_of a.0.now)) ask → AnswersEach g asked answers ask list
answers_each g asked answers ask [] h = tt
answers_each g asked answers ask (a ∷ list) h = λ r next called among. (
  (h.at (a ∷ []) r next called).0,
  answers_each g asked answers next list (record { at = λ xs. (h.at (a ∷ xs) r next called).1 }),
)

-- and so it does in the sense that `eval` asks for
pub answers_always : {F T : Type 0} (g : Mut F (Bor Predicate × Unit {0}) T) (asked : List Atom) (answers : Atom → T) (ask : F)
    → AlwaysReturns g (λ a r. r ≡ answers (atom_of a.0.now)) ask → AnswersBy g asked answers ask
answers_always g asked answers ask h = record { calls = λ list. answers_each g asked answers ask list h }
