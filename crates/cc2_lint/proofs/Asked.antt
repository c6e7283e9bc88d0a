-- What is found at the paths of a question, or in its directory where there are none.
use Rattle.std.proofs.Common.{◌≡◌, ℕ, length, Bool, true, false, List, [], ◌∷◌, ◌++◌, map, String, Global, string_bytes, true≢false, refl, sym, subst, arith}
use Rattle.std.specs.Prelude.{◌==◌, Contains}
use Rattle.std.proofs.lemmas.List.Elements.{Contains-append_right}
use Rattle.cc2_error.specs.Causes.{Refusal}
use Rattle.cc2_base.specs.Told.{Tree}
use Rattle.cc2_base.specs.ToldPrograms.{Answers}
use Rattle.cc2_base.specs.declared.machine.Machine.{Machine}
use Rattle.cc2_reports.specs.declared.report.Report.{Report}
use Rattle.cc2_findings.specs.Dirs.{is_directory}
use Rattle.cc2_reports.specs.Each.{AreOfEach}
use Rattle.cc2_lint.specs.Listed.{AreReportsFor, IsQuestionCause, IsDirectoryCause, IsOfDirectory, IsOfPath, IsMatchCause, IsMatchesCause}

-- one in the middle is one of all
pub among : {A : Type 0} (all before left behind : List A) (a : A) → all ≡ before ++ left → left ≡ a ∷ behind → Contains all a
among {A} all before left behind a split next =
    subst (λ (xs : List A). Contains xs a) (sym split)
    (Contains-append_right before left a (subst (λ (xs : List A). Contains xs a) (sym next) (0, omega arith, refl)))

module _ (fs : Tree) (answers : Answers) (machine : Machine) where
  -- the cause of a target is one of all targets
  pub targets_cause : (dir : List ℕ) (all before left behind : List (List ℕ)) (text : List ℕ) (refusal : Refusal)
      → IsMatchCause fs answers machine dir text refusal → left ≡ text ∷ behind → all ≡ before ++ left
      → IsMatchesCause fs answers machine dir all refusal
  targets_cause dir all before left behind text refusal cause next split = (text, among all before left behind text split next, cause)

  pub cause_none : (targets : List (List ℕ)) (dir : List ℕ) (paths : List (String Global)) (refusal : Refusal) → (length paths == 0) ≡ true
      → IsDirectoryCause fs answers machine dir targets refusal → IsQuestionCause fs answers machine targets dir (map string_bytes paths) refusal
  cause_none targets dir [] refusal none h = h
  cause_none targets dir (p ∷ ps) refusal none h = absurd (grind (arith, none))

  pub cause_of : (targets : List (List ℕ)) (dir : List ℕ) (paths : List (String Global)) (refusal : Refusal) (directory : List ℕ)
      → (length paths == 0) ≡ false → Contains (map string_bytes paths) directory → is_directory fs directory ≡ true
      → IsDirectoryCause fs answers machine directory targets refusal → IsQuestionCause fs answers machine targets dir (map string_bytes paths) refusal
  cause_of targets dir [] refusal directory some one is h = absurd (true≢false some)
  cause_of targets dir (p ∷ ps) refusal directory some one is h = (directory, one, is, h)

  module _ (is_open : List ℕ → Bool) (targets : List (List ℕ)) (dir : List ℕ) where
    pub found_none : (paths : List (String Global)) (reports : List Report) → (length paths == 0) ≡ true
        → IsOfDirectory fs answers is_open machine targets dir reports
        → AreReportsFor fs answers is_open machine targets dir (map string_bytes paths) reports
    found_none [] reports none h = h
    found_none (p ∷ ps) reports none h = absurd (grind (arith, none))

    pub found_each : (paths : List (String Global)) (reports : List Report) → (length paths == 0) ≡ false
        → AreOfEach (IsOfPath fs answers is_open machine targets dir) (map string_bytes paths) reports
        → AreReportsFor fs answers is_open machine targets dir (map string_bytes paths) reports
    found_each [] reports some h = absurd (true≢false some)
    found_each (p ∷ ps) reports some h = h
