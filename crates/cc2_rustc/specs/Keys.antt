-- The keys of `[target]`: which ask what rustc printed, which are true by it, and which are refused.
-- Cargo Reference, Configuration, `[target]`; Rust Reference, Conditional compilation.
use Rattle.std.specs.Prelude.{◌≡◌, ℕ, Bool, true, List, [], codes, Option, Some, None, eqb, string_bytes}
use Rattle.std.specs.List.{starts_with}
use Rattle.cc2_cfg.specs.Tokens.{Lexeme, Spelled}
use Rattle.cc2_cfg.specs.Grammar.{Tree, IsTree}
use Rattle.cc2_cfg.specs.Meaning.{Atom, meaning}
use Rattle.cc2_cfg.specs.Logic.{bool_operations}
use Rattle.cc2_cfg.specs.Refusing.{IsFault}
use Rattle.cc2_error.specs.declared.cfg_error.ParseError.{ParseError}
use Rattle.cc2_error.specs.Causes.{Refusal, plain, cfg_parse}
use Rattle.cc2_rustc.specs.Holds.{holds}

-- the key begins with `cfg(`
abbrev pub is_cfg : List ℕ → Bool
is_cfg key = starts_with eqb key (codes "cfg(")

-- a text has this tree; a blank one has none
abbrev pub HasTree : List ℕ → Tree → Type 0
HasTree text tree = (tokens : List Lexeme) × Spelled text tokens × IsTree tokens tree

-- the key asks what rustc printed, by this tree
abbrev pub AsksBy : List ℕ → Tree → Type 0
AsksBy key tree = (is_cfg key ≡ true) × HasTree key tree

-- the one tree by which the key asks, or none where it doesn't ask
abbrev pub IsKeyTree : List ℕ → Option Tree → Type 0
IsKeyTree key (Some tree) = AsksBy key tree × ((other : Tree) → AsksBy key other → other ≡ tree)
IsKeyTree key None = (tree : Tree) → ¬ (AsksBy key tree)

-- a tree's value by what rustc printed
abbrev pub value_by : List Atom → Tree → Bool
value_by atoms tree = meaning bool_operations (holds atoms) tree

-- the key asks, and what it asks is true
abbrev pub IsTrueKey : List Atom → List ℕ → Type 0
IsTrueKey atoms key = (tree : Tree) × AsksBy key tree × (value_by atoms tree ≡ true)

-- the key begins with `cfg(`, isn't blank and has no tree
abbrev pub IsBadKey : List ℕ → Type 0
IsBadKey key = (is_cfg key ≡ true) × ¬ (Spelled key []) × ((tree : Tree) → ¬ (HasTree key tree))

-- the refusal of such a key: a fault of the text, as `Expression::parse` reports it
abbrev pub IsKeyRefusal : List ℕ → Refusal → Type 0
IsKeyRefusal key refusal = IsBadKey key × (e : ParseError) × IsFault key e
    × (refusal ≡ plain (cfg_parse (string_bytes e.original) e.span.start e.span.end e.reason))
