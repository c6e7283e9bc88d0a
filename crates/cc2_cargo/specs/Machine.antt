-- The reader of a list of tokens: the functions that are open, and what came last.
use Rattle.std.specs.Prelude.{ℕ, List, [], ◌∷◌, Option, Some, None}
use Rattle.cc2_cfg.specs.Tokens.{Operator, Word, Quoted, Fun, Equals, Open, Close, Comma, OpAll, OpAny, OpNot}
use Rattle.cc2_cfg.specs.Grammar.{Tree, Trees, Flag, Pair, AllOf, AnyOf, NotOf, NoTrees}
pub use Rattle.cc2_cfg.specs.Machine.{snoc}
use Rattle.cc2_cargo.specs.Grammar.{CargoToken, Raw, Plain}

-- a function with a list of operands
pub data Junction : Type 0 where
  All : Junction
  Any : Junction

abbrev pub group : Junction → Trees → Tree
group All trees = AllOf trees
group Any trees = AnyOf trees

-- the functions that are open, innermost first, each with its operands so far
pub data OpenFunctions : Type 0 where
  Bottom : OpenFunctions
  InGroup : Junction → Trees → OpenFunctions → OpenFunctions
  InNot : OpenFunctions → OpenFunctions

-- what came last: a predicate has to follow, or may follow; a function's name, a word, a word and `=`, or a predicate
pub data LastItem : Type 0 where
  Wanted : LastItem
  Allowed : LastItem
  Named : Operator → LastItem
  Keyed : List ℕ → LastItem
  Waiting : List ℕ → LastItem
  Ended : Tree → LastItem

pub data ReaderState : Type 0 where
  At : OpenFunctions → LastItem → ReaderState

abbrev pub start : ReaderState
start = At Bottom Wanted

-- a predicate begins
abbrev pub begin_predicate : OpenFunctions → CargoToken → Option ReaderState
begin_predicate frames (Raw w) = Some (At frames (Keyed w))
begin_predicate frames (Plain (Word w)) = Some (At frames (Keyed w))
begin_predicate frames (Plain (Fun f)) = Some (At frames (Named f))
begin_predicate frames (Plain token) = None

-- a predicate begins, or the list ends
abbrev pub after_opening : OpenFunctions → CargoToken → Option ReaderState
after_opening (InGroup j trees frames) (Plain Close) = Some (At frames (Ended (group j trees)))
after_opening frames token = begin_predicate frames token

-- a function's parenthesis opens
abbrev pub entered : Operator → OpenFunctions → ReaderState
entered OpAll frames = At (InGroup All NoTrees frames) Allowed
entered OpAny frames = At (InGroup Any NoTrees frames) Allowed
entered OpNot frames = At (InNot frames) Wanted

abbrev pub after_name : OpenFunctions → Operator → CargoToken → Option ReaderState
after_name frames f (Plain Open) = Some (entered f frames)
after_name frames f token = None

-- a predicate has ended
abbrev pub after_predicate : OpenFunctions → Tree → CargoToken → Option ReaderState
after_predicate (InGroup j trees frames) t (Plain Comma) = Some (At (InGroup j (snoc trees t) frames) Allowed)
after_predicate (InGroup j trees frames) t (Plain Close) = Some (At frames (Ended (group j (snoc trees t))))
after_predicate (InNot frames) t (Plain Close) = Some (At frames (Ended (NotOf t)))
after_predicate frames t token = None

abbrev pub after_word : OpenFunctions → List ℕ → CargoToken → Option ReaderState
after_word frames w (Plain Equals) = Some (At frames (Waiting w))
after_word frames w token = after_predicate frames (Flag w) token

abbrev pub after_equals : OpenFunctions → List ℕ → CargoToken → Option ReaderState
after_equals frames w (Plain (Quoted v)) = Some (At frames (Ended (Pair w v)))
after_equals frames w token = None

abbrev pub next_state : ReaderState → CargoToken → Option ReaderState
next_state (At frames Wanted) token = begin_predicate frames token
next_state (At frames Allowed) token = after_opening frames token
next_state (At frames (Named f)) token = after_name frames f token
next_state (At frames (Keyed w)) token = after_word frames w token
next_state (At frames (Waiting w)) token = after_equals frames w token
next_state (At frames (Ended t)) token = after_predicate frames t token

-- the tree, where the text may end here
abbrev pub tree_at_end : ReaderState → Option Tree
tree_at_end (At Bottom (Keyed w)) = Some (Flag w)
tree_at_end (At Bottom (Ended t)) = Some t
tree_at_end state = None

abbrev pub from_state : Option ReaderState → (ReaderState → Option Tree) → Option Tree
from_state None k = None
from_state (Some s) k = k s

-- the tree of a list of tokens, read from a state on
unfoldable pub run : List CargoToken → ReaderState → Option Tree
run [] s = tree_at_end s
run (token ∷ tokens) s = from_state (next_state s token) (λ t. run tokens t)
