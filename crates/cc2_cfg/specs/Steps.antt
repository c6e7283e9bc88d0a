-- What one call of the lexer gives.
use Rattle.std.specs.Prelude.{◌≡◌, ◌≢◌, ℕ, ◌+◌, ◌≤◌, true, false, cond, List, ◌++◌, length, drop, slice_range, Option, Some, None, Result, Ok, Err}
use Rattle.std.specs.Iterator.{Count, at_most}
use Rattle.std.specs.Str.{IsCharBoundary}
use Rattle.cc2_cfg.specs.Tokens.{Lexeme, spelling, Begins, Spells, IsBlank}
use Rattle.cc2_cfg.specs.Lexing.{lexeme_of}
use Rattle.cc2_cfg.specs.declared.lexer.Lexer.{Lexer}
use Rattle.cc2_cfg.specs.declared.lexer.LexerToken.{LexerToken}
use Rattle.cc2_error.specs.declared.cfg_error.LexFault.{LexFault}
use Rattle.cc2_error.specs.declared.cfg_error.Reason.TheVariants.{Empty}

-- the next token, with its place in the stripped text
pub record GivesToken (s : Lexer) (x : LexerToken) (t : Lexer) : Type 0 where
  pub running : (s.ended ≡ false) × (t.ended ≡ false)
  pub original : t.original.now ≡ s.original.now
  pub begins : Begins s.rest.now (lexeme_of x.token) t.rest.now
  pub start : x.span.start + length (spelling (lexeme_of x.token)) ≡ x.span.end
  pub end : x.span.end + length t.rest.now ≡ length s.original.now
  pub slice : slice_range s.original.now x.span.start x.span.end ≡ spelling (lexeme_of x.token)

-- no token is there, at the fault's span of whole characters, and only white space before it
pub record GivesFault (s : Lexer) (f : LexFault) (t : Lexer) : Type 0 where
  pub running : s.ended ≡ false
  pub ended : t.ended ≡ true
  pub original : t.original.now ≡ s.original.now
  pub stuck : (tokens : List Lexeme) → Spells s.rest.now tokens → ⊥
  pub space : List ℕ
  pub blank : IsBlank space
  pub before : s.rest.now ≡ space ++ drop f.span.start s.original.now
  pub ordered : f.span.start ≤ f.span.end
  pub within : f.span.end ≤ length s.original.now
  pub first : IsCharBoundary s.original.now f.span.start
  pub last : IsCharBoundary s.original.now f.span.end
  pub seen : f.reason ≢ Empty

-- the end of the text, or after a fault
pub record GivesEnd (s : Lexer) (t : Lexer) : Type 0 where
  pub ended : t.ended ≡ true
  pub original : t.original.now ≡ s.original.now
  pub blank : s.ended ≡ false → IsBlank s.rest.now

abbrev pub lexer_gives : Lexer → Option (Result LexerToken LexFault) → Lexer → Type 0
lexer_gives s None t = GivesEnd s t
lexer_gives s (Some (Ok x)) t = GivesToken s x t
lexer_gives s (Some (Err f)) t = GivesFault s f t

-- at most one item for each byte that is left, and a fault
abbrev pub lexer_remaining : Lexer → Count
lexer_remaining s = at_most (cond s.ended 0 (length s.rest.now + 1))
