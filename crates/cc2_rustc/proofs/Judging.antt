-- What reading a key's text says of the key.
use Rattle.std.proofs.Common.{◌≡◌, ℕ, List, Some, None, refl, sym, ap, ◌∙◌}
use Rattle.std.specs.Prelude.{Bool, true, false}
use Rattle.std.specs.Bool.{Decides}
use Rattle.cc2_cfg.specs.Tokens.{Lexeme, Spelled}
use Rattle.cc2_cfg.specs.Grammar.{Tree, IsTree}
use Rattle.cc2_cfg.specs.Meaning.{Atom}
use Rattle.cc2_cfg.specs.Refusing.{IsFault}
use Rattle.cc2_error.specs.declared.cfg_error.Reason.TheVariants.{Empty}
use Rattle.cc2_error.specs.declared.cfg_error.ParseError.{ParseError}
use Rattle.cc2_error.specs.Causes.{Refusal, plain, cause_of}
use Rattle.cc2_error.specs.declared.error.ErrorKind.TheVariants.{CfgParse}
use Rattle.cc2_rustc.specs.Keys.{is_cfg, HasTree, IsKeyTree, IsKeyRefusal, IsTrueKey, value_by}

-- no error applies for the key
abbrev pub IsFine : List ℕ → Type 0
IsFine key = (refusal : Refusal) → ¬ (IsKeyRefusal key refusal)

-- an accepted key
pub asks-by : (key : List ℕ) (tree : Tree) → is_cfg key ≡ true → HasTree key tree
    → ((tokens : List Lexeme) (other : Tree) → Spelled key tokens → IsTree tokens other → other ≡ tree)
    → IsKeyTree key (Some tree) × IsFine key
asks-by key tree cfg accepted only = (
  ((cfg, accepted), λ other asks. only asks.1.0 other asks.1.1 asks.1.2),
  λ refusal bad. bad.0.2 tree accepted,
)

-- a blank one
pub blank-asks-not : (key : List ℕ) (e : ParseError) → IsFault key e → e.reason ≡ Empty
    → IsKeyTree key None × IsFine key
blank-asks-not key e fault is =
    (λ tree asks. fault.no_tree asks.1.0 tree asks.1.1 asks.1.2, λ refusal bad. bad.0.1 (fault.empty is))

-- any other
pub bad-key : (key : List ℕ) (e : ParseError) → is_cfg key ≡ true → IsFault key e → (e.reason ≡ Empty → ⊥)
    → IsKeyRefusal key (plain (cause_of (CfgParse e)))
bad-key key e cfg fault other = (
  (cfg, λ blank. other (fault.blank blank), λ tree has. fault.no_tree has.0 tree has.1 has.2),
  e,
  fault,
  refl,
)

-- the key's tree decides the key
pub decided-by : (atoms : List Atom) (key : List ℕ) (tree : Tree) (value : Bool) → value ≡ value_by atoms tree
    → IsKeyTree key (Some tree) → Decides value (IsTrueKey atoms key)
decided-by atoms key tree value is asks = (
  λ e. (tree, asks.0, sym is ∙ e),
  λ holds. is ∙ ap (value_by atoms) (sym (asks.1 holds.0 holds.1)) ∙ holds.2,
)

-- without a tree it is false
pub decided-none : (atoms : List Atom) (key : List ℕ) → IsKeyTree key None → Decides false (IsTrueKey atoms key)
decided-none atoms key none = (λ e. absurd (cc e), λ holds. absurd (none holds.0 holds.1))
