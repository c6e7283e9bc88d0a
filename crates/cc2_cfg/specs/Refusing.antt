-- What a refused text gives.
use Rattle.std.specs.Prelude.{◌≡◌, ℕ, ◌≤◌, List, [], length}
use Rattle.std.specs.Str.{IsCharBoundary}
use Rattle.std.specs.String.{string_bytes}
use Rattle.cc2_cfg.specs.Tokens.{Lexeme, IsStripped, Spelled}
use Rattle.cc2_cfg.specs.Grammar.{Tree, IsTree}
use Rattle.cc2_error.specs.declared.cfg_error.Reason.{Reason}
use Rattle.cc2_error.specs.declared.cfg_error.Reason.TheVariants.{Empty}
use Rattle.cc2_error.specs.declared.cfg_error.ParseError.{ParseError}
use Rattle.cc2_error.specs.declared.cfg_error.CfgError.{CfgError}
use Rattle.cc2_error.specs.declared.cfg_error.CfgError.TheVariants.{Memory, Parse}

-- no list of tokens that the text spells has a tree
abbrev pub NoTree : List ℕ → Type 0
NoTree text = (tokens : List Lexeme) (tree : Tree) → Spelled text tokens → IsTree tokens tree → ⊥

-- the text has no tree; the error holds the stripped text and a span of whole characters within it, and says that it is empty exactly where it is blank
pub record IsFault (text : List ℕ) (e : ParseError) : Type 0 where
  pub no_tree : NoTree text
  pub original : IsStripped text (string_bytes e.original)
  pub ordered : e.span.start ≤ e.span.end
  pub within : e.span.end ≤ length (string_bytes e.original)
  pub first : IsCharBoundary (string_bytes e.original) e.span.start
  pub last : IsCharBoundary (string_bytes e.original) e.span.end
  pub empty : e.reason ≡ Empty → Spelled text []
  pub blank : Spelled text [] → e.reason ≡ Empty

-- a refusal for another cause than memory is a fault of the text
abbrev pub IsRefusal : List ℕ → CfgError → Type 0
IsRefusal text Memory = Unit {0}
IsRefusal text (Parse e) = IsFault text e

-- an error of this stripped text with this reason, or out of memory
pub record IsFaultOf (original : List ℕ) (reason : Reason) (e : ParseError) : Type 0 where
  pub original_is : string_bytes e.original ≡ original
  pub ordered : e.span.start ≤ e.span.end
  pub within : e.span.end ≤ length original
  pub first : IsCharBoundary original e.span.start
  pub last : IsCharBoundary original e.span.end
  pub reason_is : e.reason ≡ reason

abbrev pub IsFaultAt : List ℕ → Reason → CfgError → Type 0
IsFaultAt original reason Memory = Unit {0}
IsFaultAt original reason (Parse e) = IsFaultOf original reason e
