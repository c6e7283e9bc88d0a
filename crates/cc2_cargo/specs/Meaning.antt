-- What a tree means to Cargo, from the answers for its predicates (Rust Reference, "Conditional compilation").
-- And what is known of the answers: nothing, or the map by which a closure answers some predicates.
use Rattle.std.specs.Prelude.{Bool, true, false, if◌then◌else◌, bytes_eq, codes, ◌≡◌, List, Contains, Option, Some, None}
use Rattle.cc2_cfg.specs.Grammar.{Tree, Flag, Pair}
use Rattle.cc2_cfg.specs.Logic.{bool_operations}
use Rattle.cc2_cfg.specs.Meaning.{Atom, FlagAtom, PairAtom, meaning}
use Rattle.std.specs.Fn.{Mut}
use denote.Ref.{Bor}
use Rattle.cc2_cfg.specs.Answering.{AnswersBy}
use Rattle.cc2_cfg.specs.declared.expression.Predicate.{Predicate}

-- the flags `true` and `false` are constants
abbrev pub with_constants : (Atom → Bool) → Atom → Bool
with_constants answers (FlagAtom w) = if bytes_eq w (codes "true") then true else if bytes_eq w (codes "false") then false else answers (FlagAtom w)
with_constants answers (PairAtom key v) = answers (PairAtom key v)

-- the value of a tree: `all` and `any` of nothing are true and false
abbrev pub value_of : (Atom → Bool) → Tree → Bool
value_of answers tree = meaning bool_operations (with_constants answers) tree

-- a map of answers, where one is known
abbrev pub AnswerMap : Type 0
AnswerMap = Option (Atom → Bool)

-- where a map is known, the closure answers those predicates by it
abbrev pub Follows : {F : Type 0} → Mut F (Bor Predicate × Unit {0}) Bool → AnswerMap → List Atom → F → Type 0
Follows g None asked ask = Unit {0}
Follows g (Some answers) asked ask = AnswersBy g asked answers ask

-- where a map is known, this predicate is one of those
abbrev pub IsAmong : AnswerMap → List Atom → Atom → Type 0
IsAmong None asked atom = Unit {0}
IsAmong (Some answers) asked atom = Contains asked atom

-- where a map is known, this is the value of the tree
abbrev pub IsValue : AnswerMap → Tree → Bool → Type 0
IsValue None tree b = Unit {0}
IsValue (Some answers) tree b = b ≡ value_of answers tree

abbrev pub leaf : Atom → Tree
leaf (FlagAtom w) = Flag w
leaf (PairAtom key v) = Pair key v

-- the value of a constant
abbrev pub constant_of : Atom → Option Bool
constant_of (FlagAtom w) = if bytes_eq w (codes "true") then Some true else if bytes_eq w (codes "false") then Some false else None
constant_of (PairAtom key v) = None
