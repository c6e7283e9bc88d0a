-- What the lexer gives over a whole run.
use Rattle.std.specs.Prelude.{◌≡◌, false, ℕ, ◌<◌, ◌≤◌, List, [], ◌∷◌, ◌++◌, length, take, slice_range, None, Result, Ok, Err}
use Rattle.std.specs.Iterator.{Yields, YieldsThen}
use Rattle.std.specs.Str.{IsCharBoundary}
use Rattle.cc2_cfg.specs.Tokens.{Lexeme, spelling, Spells}
use Rattle.cc2_cfg.specs.Lexing.{lexeme_of}
use Rattle.cc2_cfg.specs.Steps.{lexer_gives}
use Rattle.cc2_cfg.specs.declared.lexer.Lexer.{Lexer}
use Rattle.cc2_cfg.specs.declared.lexer.LexerToken.{LexerToken}
use Rattle.cc2_error.specs.declared.cfg_error.LexFault.{LexFault}

-- the text that a lexer goes over
abbrev pub text_of : Lexer → List ℕ
text_of lexer = lexer.original.now

-- nothing was read yet
pub record IsAtStart (lexer : Lexer) : Type 0 where
  pub running : lexer.ended ≡ false
  pub whole : lexer.rest.now ≡ text_of lexer

-- the token is at its span, after the place at
pub record StandsAt (text : List ℕ) (at : ℕ) (x : LexerToken) : Type 0 where
  pub behind : at ≤ x.span.start
  pub ordered : x.span.start < x.span.end
  pub within : x.span.end ≤ length text
  pub slice : slice_range text x.span.start x.span.end ≡ spelling (lexeme_of x.token)

-- no list of tokens is spelled by the text, and what precedes the span, of whole characters, spells those given
pub record FaultsAt (text : List ℕ) (given : List Lexeme) (at : ℕ) (f : LexFault) : Type 0 where
  pub behind : at ≤ f.span.start
  pub ordered : f.span.start ≤ f.span.end
  pub within : f.span.end ≤ length text
  pub first : IsCharBoundary text f.span.start
  pub last : IsCharBoundary text f.span.end
  pub stuck : (tokens : List Lexeme) → Spells text tokens → ⊥
  pub before : Spells (take f.span.start text) given

module _ (text : List ℕ) (Ended : List Lexeme → Type 0) where
  -- these items follow in order the tokens given, which end at the place at; nothing follows a fault.
  -- Where there is no fault, all tokens are those of Ended.
  abbrev pub IsLexed : List Lexeme → ℕ → List (Result LexerToken LexFault) → Type 0
  IsLexed given at [] = Ended given
  IsLexed given at (Ok x ∷ items) = StandsAt text at x × IsLexed (given ++ lexeme_of x.token ∷ []) x.span.end items
  IsLexed given at (Err f ∷ items) = FaultsAt text given at f × (items ≡ [])

-- items that were given so far
abbrev pub IsFrontOf : List ℕ → List (Result LexerToken LexFault) → Type 0
IsFrontOf text items = IsLexed text (λ given. Unit {0}) [] 0 items

-- these tokens are spelled by the text, and no other list is
pub record IsTheListOf (text : List ℕ) (given : List Lexeme) : Type 0 where
  pub spelled : Spells text given
  pub only : (others : List Lexeme) → Spells text others → others ≡ given

-- and all items: the text spells the tokens, or the last item is a fault
abbrev pub IsWholeOf : List ℕ → List (Result LexerToken LexFault) → Type 0
IsWholeOf text items = IsLexed text (λ given. IsTheListOf text given) [] 0 items

-- whatever was given so far, from a lexer on, is lexed
abbrev pub GivesFronts : Lexer → Type 0
GivesFronts lexer = (items : List (Result LexerToken LexFault)) (later : Lexer) → Yields lexer_gives lexer items later → IsFrontOf (text_of lexer) items

-- and so are all its items
abbrev pub GivesWhole : Lexer → Type 0
GivesWhole lexer = (items : List (Result LexerToken LexFault)) (later : Lexer) → YieldsThen lexer_gives lexer items None later → IsWholeOf (text_of lexer) items
