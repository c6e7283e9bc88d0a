-- What one call of the lexer gives.
use Rattle.std.specs.Prelude.{◌≡◌, ℕ, List, ◌++◌}
use Rattle.cc2_cfg.specs.Tokens.{Lexeme, Word, Quoted, Fun, Equals, Open, Close, Comma, OpAll, OpAny, OpNot, IsLexeme, EndsBefore, spelling}
use Rattle.cc2_cfg.specs.declared.token.Token.{Token}
use Rattle.cc2_cfg.specs.declared.token.Token.TheVariants as token

-- a token of the code, without where its text lies
abbrev pub lexeme_of : Token → Lexeme
lexeme_of (token.Key w) = Word w.now
lexeme_of (token.Value v) = Quoted v.now
lexeme_of token.Equals = Equals
lexeme_of token.All = Fun OpAll
lexeme_of token.Any = Fun OpAny
lexeme_of token.Not = Fun OpNot
lexeme_of token.OpenParen = Open
lexeme_of token.CloseParen = Close
lexeme_of token.Comma = Comma

-- the text is the token and then rest
pub record Fronts (text : List ℕ) (t : Lexeme) (rest : List ℕ) : Type 0 where
  pub valid : IsLexeme t
  pub ends : EndsBefore t rest
  pub whole : text ≡ spelling t ++ rest
