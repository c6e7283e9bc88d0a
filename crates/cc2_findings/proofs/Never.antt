-- A key that never holds is false by each list that rustc may print.
use Rattle.std.proofs.Common.{◌≡◌, ℕ, Bool, true, false, cond, List, Option, Some, None, Result, Ok, IfOk, refl, sym, subst, ◌∙◌, inl, inr}
use Rattle.std.proofs.lemmas.Bool.{false≢true}
use Rattle.cc2_cfg.specs.Grammar.{Tree}
use Rattle.cc2_cfg.specs.Meaning.{Atom}
use Rattle.cc2_error.specs.declared.error.NoMemory.{NoMemory}
use Rattle.cc2_rustc.specs.Keys.{IsTrueKey, value_by}
use Rattle.cc2_findings.specs.KeyFaults.{asks_debug, tree_fault, IsJudged}
use Rattle.cc2_findings.specs.declared.cfg_key.KeyFault.{KeyFault}
use Rattle.cc2_findings.specs.declared.cfg_key.KeyFault.TheVariants.{NeverHolds, DebugAssertions}
use Rattle.cc2_findings.specs.Dead.{is_dead}
use Rattle.cc2_findings.proofs.Falsity.{dead_false}
use Rattle.cc2_findings.proofs.Judged.{not_blank}
use Rattle.cc2_cfg.proofs.Accepting.{one-tree}

-- a tree that never holds is dead
tree_never : (b dead : Bool) → cond b (Some DebugAssertions) (cond dead (Some NeverHolds) None) ≡ Some NeverHolds → dead ≡ true
tree_never true dead h = cc h
tree_never false true h = refl
tree_never false false h = cc h

-- so it is false
pub false_by : (atoms : List Atom) (tree : Tree) → tree_fault tree ≡ Some NeverHolds → value_by atoms tree ≡ false
false_by atoms tree h = dead_false atoms tree (tree_never (asks_debug tree) (is_dead tree) h)

never_asks : (key : List ℕ) (atoms : List Atom) → IsJudged key (Some NeverHolds) → IsTrueKey atoms key → ⊥
never_asks key atoms (inl blank) (tree, asks, holds) = not_blank key tree asks.1 blank
never_asks key atoms (inr with) (tree, asks, holds) =
    let same : with.0 ≡ tree = one-tree key with.1.1.0 asks.1.0 with.0 tree with.1.1.1 with.1.1.2 asks.1.1 asks.1.2 in
    false≢true (sym (false_by atoms tree (subst (λ (t : Tree). tree_fault t ≡ Some NeverHolds) same with.2)) ∙ holds)

pub never_true : (key : List ℕ) (atoms : List Atom) (result : Result (Option KeyFault) NoMemory) → result ≡ Ok (Some NeverHolds)
    → IfOk result (IsJudged key) → IsTrueKey atoms key → ⊥
never_true key atoms result is judged = never_asks key atoms (subst (λ (r : Result (Option KeyFault) NoMemory). IfOk r (IsJudged key)) is judged)
