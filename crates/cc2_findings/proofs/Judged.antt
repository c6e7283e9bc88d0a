-- What reading a key says of what is wrong with it.
use Rattle.std.proofs.Common.{◌≡◌, ℕ, Bool, true, false, cond, List, Option, Some, None, Result, Ok, Err, IfOk, sym, ap, ◌∙◌, inr}
use Rattle.cc2_cfg.specs.Tokens.{Lexeme, Spelled}
use Rattle.cc2_cfg.specs.Grammar.{Tree, IsTree}
use Rattle.cc2_cfg.specs.Refusing.{IsFault}
use Rattle.cc2_cfg.proofs.Accepting.{blank-refused}
use Rattle.cc2_error.specs.declared.cfg_error.ParseError.{ParseError}
use Rattle.cc2_error.specs.declared.cfg_error.Reason.TheVariants.{Empty}
use Rattle.cc2_error.specs.declared.error.NoMemory.{NoMemory}
use Rattle.cc2_rustc.specs.Keys.{is_cfg, HasTree, AsksBy}
use Rattle.cc2_findings.specs.KeyFaults.{asks_debug, tree_fault, IsBlankKey, IsJudged}
use Rattle.cc2_findings.specs.Dead.{is_dead}
use Rattle.cc2_findings.specs.declared.cfg_key.KeyFault.{KeyFault}
use Rattle.cc2_findings.specs.declared.cfg_key.KeyFault.TheVariants.{NoExpression, NeverHolds, DebugAssertions}

-- a tree's fault isn't that there is none
fault_fine : (b dead : Bool) (e : ParseError) → cond b (Some DebugAssertions) (cond dead (Some NeverHolds) None) ≡ Some (NoExpression e) → ⊥
fault_fine true dead e h = cc h
fault_fine false true e h = cc h
fault_fine false false e h = cc h

-- a key with a tree isn't blank
pub not_blank : (key : List ℕ) (tree : Tree) → HasTree key tree → IsBlankKey key → ⊥
not_blank key tree has blank = blank-refused key blank.1.0 blank.1.1 blank.1.2 has.0 tree has.1 has.2

module _ (key : List ℕ) (tree : Tree) (asks : AsksBy key tree)
    (only : (tokens : List Lexeme) (other : Tree) → Spelled key tokens → IsTree tokens other → other ≡ tree) where
  of_fault : (fault : Option KeyFault) → tree_fault tree ≡ fault → IsJudged key fault
  of_fault None is = (
    λ bad. bad.2 tree asks.1,
    not_blank key tree asks.1,
    λ other asked. ap tree_fault (only asked.1.0 other asked.1.1 asked.1.2) ∙ is,
  )
  of_fault (Some NeverHolds) is = inr (tree, asks, is)
  of_fault (Some DebugAssertions) is = (tree, asks, is)
  of_fault (Some (NoExpression e)) is = absurd (fault_fine (asks_debug tree) (is_dead tree) e is)

  -- a key with a tree
  pub judged_tree : (result : Result (Option KeyFault) NoMemory) → IfOk result (λ fault. fault ≡ tree_fault tree) → IfOk result (IsJudged key)
  judged_tree (Ok fault) is = of_fault fault (sym is)
  judged_tree (Err e) is = tt

-- a key without one, which isn't blank
pub judged_bad : (key : List ℕ) (e : ParseError) → is_cfg key ≡ true → IsFault key e → (e.reason ≡ Empty → ⊥) → IsJudged key (Some (NoExpression e))
judged_bad key e cfg fault other =
    ((cfg, λ blank. other (fault.blank blank), λ tree has. fault.no_tree has.0 tree has.1 has.2), fault)
