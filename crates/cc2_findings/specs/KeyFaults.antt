-- Keys of `[target]` that don't do what their writer meant.
-- Cargo Reference, Configuration, `[target]`; Rust Reference, Conditional compilation.
use Rattle.std.specs.Prelude.{◌≡◌, ◌⊎◌, ℕ, Bool, true, false, List, [], codes, bytes_eq, Option, Some, None, if◌then◌else◌}
use Rattle.std.specs.List.{list_any}
use Rattle.cc2_cfg.specs.Tokens.{Spelled}
use Rattle.cc2_cfg.specs.Grammar.{Tree}
use Rattle.cc2_cfg.specs.Meaning.{Atom, FlagAtom, PairAtom, predicates_of}
use Rattle.cc2_cfg.specs.Refusing.{IsFault}
use Rattle.cc2_rustc.specs.Keys.{is_cfg, AsksBy, IsBadKey}
use Rattle.cc2_findings.specs.Dead.{is_dead}
use Rattle.cc2_findings.specs.declared.cfg_key.KeyFault.{KeyFault}
use Rattle.cc2_findings.specs.declared.cfg_key.KeyFault.TheVariants.{NoExpression, NeverHolds, DebugAssertions}

abbrev pub is_debug : Atom → Bool
is_debug (FlagAtom word) = bytes_eq word (codes "debug_assertions")
is_debug (PairAtom key value) = false

-- the tree asks for `debug_assertions`
abbrev pub asks_debug : Tree → Bool
asks_debug tree = list_any is_debug (predicates_of tree)

-- what is wrong with a key of this tree
abbrev pub tree_fault : Tree → Option KeyFault
tree_fault tree = if asks_debug tree then Some DebugAssertions else if is_dead tree then Some NeverHolds else None

-- the key begins with `cfg(` and is blank, so it is false
abbrev pub IsBlankKey : List ℕ → Type 0
IsBlankKey key = (is_cfg key ≡ true) × Spelled key []

-- the key asks, by a tree with this fault
abbrev pub AsksWith : List ℕ → Option KeyFault → Type 0
AsksWith key fault = (tree : Tree) × AsksBy key tree × (tree_fault tree ≡ fault)

-- what is wrong with the key is this
abbrev pub IsJudged : List ℕ → Option KeyFault → Type 0
IsJudged key (Some (NoExpression e)) = IsBadKey key × IsFault key e
IsJudged key (Some NeverHolds) = IsBlankKey key ⊎ AsksWith key (Some NeverHolds)
IsJudged key (Some DebugAssertions) = AsksWith key (Some DebugAssertions)
IsJudged key None = ¬ (IsBadKey key) × ¬ (IsBlankKey key) × ((tree : Tree) → AsksBy key tree → tree_fault tree ≡ None)
