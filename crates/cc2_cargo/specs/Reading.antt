-- What the reader of the code keeps of a state of the machine: the open functions with their values so far, and what came last.
use Rattle.std.specs.Prelude.{◌≡◌, ℕ, Bool, true, false, ◌&&◌, ◌||◌, not, List, [], ◌∷◌, ◌++◌, Option, Some, None, option_to_list}
use Rattle.cc2_cfg.specs.Tokens.{Operator, Word, Quoted, Fun, Equals, Open, Close, Comma, OpAll, OpAny, OpNot}
use Rattle.cc2_cfg.specs.Grammar.{Tree, Trees, Flag}
use Rattle.cc2_cfg.specs.Meaning.{Atom, FlagAtom, PairAtom}
use Rattle.cc2_cargo.specs.Grammar.{CargoToken, Raw, Plain}
use Rattle.cc2_cargo.specs.Machine.{Junction, All, Any, OpenFunctions, Bottom, InGroup, InNot, Wanted, Allowed, Named, Keyed, Waiting, Ended, ReaderState, At, group}
use Rattle.cc2_cargo.specs.Meaning.{AnswerMap, IsAmong, IsValue}
use Rattle.cc2_cargo.specs.declared.cfg_token.Function.{Function}
use Rattle.cc2_cargo.specs.declared.cfg_token.Function.TheVariants as function
use Rattle.cc2_cargo.specs.declared.cfg_token.Token.{Token}
use Rattle.cc2_cargo.specs.declared.cfg_token.Token.TheVariants as token
use Rattle.cc2_cargo.specs.declared.cfg_reader.Last.{Last}
use Rattle.cc2_cargo.specs.declared.cfg_reader.Last.TheVariants as last
use Rattle.cc2_cargo.specs.declared.cfg_reader.Open.{Open as OpenFunction}
use Rattle.cc2_cargo.specs.declared.cfg_reader.Reader.{Reader}

abbrev pub operator_for : Function → Operator
operator_for function.All = OpAll
operator_for function.Any = OpAny
operator_for function.Not = OpNot

-- a token of the code, without where its text lies
abbrev pub token_of : Token → CargoToken
token_of (token.Word w) = Plain (Word w.now)
token_of (token.RawWord w) = Raw w.now
token_of (token.Quoted v) = Plain (Quoted v.now)
token_of (token.Function f) = Plain (Fun (operator_for f))
token_of token.Equals = Plain Equals
token_of token.OpenParen = Plain Open
token_of token.CloseParen = Plain Close
token_of token.Comma = Plain Comma

abbrev pub function_of : Junction → Function
function_of All = function.All
function_of Any = function.Any

-- a function of no operands; `not` has none yet
abbrev pub of_no_operand : Function → Bool
of_no_operand function.All = true
of_no_operand function.Any = false
of_no_operand function.Not = true

-- one more operand, the only one of `not`
abbrev pub added : Function → Bool → Bool → Bool
added function.All x v = x && v
added function.Any x v = x || v
added function.Not x v = not v

-- the functions that are open, outermost first, each with the value of its operands so far
abbrev pub IsStack : AnswerMap → OpenFunctions → List OpenFunction → Type 0
IsStack known Bottom items = items ≡ []
IsStack known (InGroup j trees frames) items = (outer : List OpenFunction) × (top : OpenFunction) × (items ≡ outer ++ top ∷ [])
    × (top.function ≡ function_of j) × IsValue known (group j trees) top.value × IsStack known frames outer
IsStack known (InNot frames) items = (outer : List OpenFunction) × (top : OpenFunction) × (items ≡ outer ++ top ∷ [])
    × (top.function ≡ function.Not) × IsStack known frames outer

abbrev pub IsStage : AnswerMap → Last → ReaderState → Type 0
IsStage known last.Wanted s = (frames : OpenFunctions) × (s ≡ At frames Wanted)
IsStage known last.Allowed s = (j : Junction) × (trees : Trees) × (frames : OpenFunctions) × (s ≡ At (InGroup j trees frames) Allowed)
IsStage known (last.Name f) s = (frames : OpenFunctions) × (s ≡ At frames (Named (operator_for f)))
IsStage known (last.Key w) s = (frames : OpenFunctions) × (s ≡ At frames (Keyed w.now))
IsStage known (last.Equals w) s = (frames : OpenFunctions) × (s ≡ At frames (Waiting w.now))
IsStage known (last.Value b) s = (frames : OpenFunctions) × (tree : Tree) × (s ≡ At frames (Ended tree)) × IsValue known tree b

abbrev pub frames_of : ReaderState → OpenFunctions
frames_of (At frames phase) = frames

pub record KeepsState (known : AnswerMap) (r : Reader) (s : ReaderState) : Type 0 where
  pub phase : IsStage known r.last s
  pub stack : IsStack known (frames_of s) (r.outer.items ++ option_to_list r.current)
  pub outermost : r.current ≡ None → r.outer.items ≡ []

-- fits says whether there is a next state, which q represents
abbrev pub NextState : AnswerMap → Option ReaderState → Bool → Reader → Type 0
NextState known None fits q = fits ≡ false
NextState known (Some s) fits q = (fits ≡ true) × KeepsState known q s

-- whether a predicate may begin
abbrev pub allows_predicate : ReaderState → Bool
allows_predicate (At frames Wanted) = true
allows_predicate (At frames Allowed) = true
allows_predicate state = false

-- a word is a flag where no `=` follows
abbrev pub flag_ended : ReaderState → ReaderState
flag_ended (At frames (Keyed w)) = At frames (Ended (Flag w))
flag_ended state = state

-- the value of the innermost function that is open, where it may end here
abbrev pub ending : Last → Option OpenFunction → Option Bool
ending (last.Value operand) (Some top) = Some (added top.function top.value operand)
ending last.Allowed (Some top) = Some top.value
ending other top = None

-- the flag that ends here is among the predicates asked
abbrev pub CoversFlag : AnswerMap → List Atom → ReaderState → Type 0
CoversFlag known asked (At frames (Keyed w)) = IsAmong known asked (FlagAtom w)
CoversFlag known asked state = Unit {0}

-- so is the pair that ends at this value
abbrev pub CoversPair : AnswerMap → List Atom → ReaderState → List ℕ → Type 0
CoversPair known asked (At frames (Waiting w)) v = IsAmong known asked (PairAtom w v)
CoversPair known asked state v = Unit {0}

-- the predicate that ends at this token, or before it, is among those asked
abbrev pub Covers : AnswerMap → List Atom → ReaderState → CargoToken → Type 0
Covers known asked state (Plain (Quoted v)) = CoversPair known asked state v
Covers known asked state (Plain Comma) = CoversFlag known asked state
Covers known asked state (Plain Close) = CoversFlag known asked state
Covers known asked state token = Unit {0}

-- the value at the end of the text: that of the tree, and false where there is none
abbrev pub EndsWith : AnswerMap → Option Tree → Bool → Type 0
EndsWith known None b = b ≡ false
EndsWith known (Some tree) b = IsValue known tree b

-- a function opens inside of another one
abbrev pub OpensInside : ReaderState → Type 0
OpensInside (At (InGroup j trees frames) (Named f)) = Unit {0}
OpensInside (At (InNot frames) (Named f)) = Unit {0}
OpensInside state = ⊥
