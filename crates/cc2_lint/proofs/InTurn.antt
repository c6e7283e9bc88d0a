-- The reports of files, one after another: with those of the files that are left, they are those of all.
use Rattle.std.proofs.Common.{◌≡◌, ℕ, suc, ◌+◌, List, [], ◌∷◌, ◌++◌, refl, sym, subst, append_assoc, arith}
use Rattle.std.proofs.lemmas.List.{append-nil}
use Rattle.cc2_findings.specs.declared.dir.LintedFile.{LintedFile}
use Rattle.cc2_reports.specs.declared.report.Report.{Report}
use Rattle.cc2_lint.specs.Files.{AreReportsOfAll, Checked, AreReportsOf}

module _ (c : Checked) (whole : List LintedFile) where
  -- with the reports of the files from this number on, these are those of all
  abbrev pub AreSoFar : ℕ → List LintedFile → List Report → Type 0
  AreSoFar n left all = (rest : List Report) → AreReportsOfAll c n left rest → AreReportsOfAll c 0 whole (all ++ rest)

  pub files_start : (all : List Report) → all ≡ [] → AreSoFar 0 whole all
  files_start all none rest h = subst (λ (rs : List Report). AreReportsOfAll c 0 whole (rs ++ rest)) (sym none) h

  pub files_on : (n m : ℕ) (before after : List LintedFile) (f : LintedFile) (all own more : List Report) → before ≡ f ∷ after
      → m ≡ suc n → more ≡ all ++ own → AreReportsOf c n f own → AreSoFar n before all → AreSoFar m after more
  files_on n m before after f all own more split next appended is so_far rest h =
      subst (λ (rs : List Report). AreReportsOfAll c 0 whole (rs ++ rest)) (sym appended)
      (subst (λ (rs : List Report). AreReportsOfAll c 0 whole rs) (sym (append_assoc all own rest))
      (so_far (own ++ rest) (subst (λ (fs : List LintedFile). AreReportsOfAll c n fs (own ++ rest)) (sym split)
      (own, rest, refl, is, subst (λ (k : ℕ). AreReportsOfAll c k after rest) next h))))

  -- the same, by the reports of the file, up to the next number
  pub files_next : (n : ℕ) (before after : List LintedFile) (f : LintedFile) (all own more : List Report) → AreReportsOf c n f own
      → before ≡ f ∷ after → more ≡ all ++ own → AreSoFar n before all → AreSoFar (n + 1) after more
  files_next n before after f all own more is split appended so_far =
      files_on n (n + 1) before after f all own more split (omega arith) appended is so_far

  pub files_end : (n : ℕ) (left : List LintedFile) (all : List Report) → left ≡ [] → AreSoFar n left all → AreReportsOfAll c 0 whole all
  files_end n left all none so_far =
      subst (λ (rs : List Report). AreReportsOfAll c 0 whole rs) (append-nil all)
      (so_far [] (subst (λ (fs : List LintedFile). AreReportsOfAll c n fs []) (sym none) refl))
