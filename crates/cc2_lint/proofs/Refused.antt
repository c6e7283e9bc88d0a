-- A file that a load refuses has a report.
use Rattle.std.proofs.Common.{◌≡◌, ◌≢◌, ap, inl, inr, ℕ, List, [], ◌∷◌, ◌++◌, map, Option, Some, None, refl, sym, subst, ◌∙◌, arith}
use Rattle.std.specs.Prelude.{Contains}
use Rattle.std.specs.Str.{IsUtf8}
use Rattle.std.specs.List.Sorted.{IsPermutation}
use Rattle.std.proofs.lemmas.List.Elements.{Contains-append_right}
use Rattle.std.proofs.lemmas.List.Sorted.{Contains-permutation}
use Rattle.toml.specs.Data.{Members}
use Rattle.toml.specs.Parse.{parse_document}
use Rattle.cc2_base.specs.Told.{Tree}
use Rattle.cc2_de.specs.Config.{config_faults}
use Rattle.cc2_de.specs.ConfigFile.{IsFileCause}
use Rattle.cc2_error.specs.Causes.{Refusal}
use Rattle.cc2_findings.specs.Clashes.{Clash}
use Rattle.cc2_findings.specs.Dirs.{path_of}
use Rattle.cc2_findings.specs.KeyFindings.{shown_fault}
use Rattle.cc2_findings.specs.Files.{AreOfBytes, AreOfText, IsLinted, IsValueFault}
use Rattle.cc2_findings.specs.declared.alone.ValueFault.{ValueFault}
use Rattle.cc2_findings.specs.declared.dir.LintedFile.{LintedFile}
use Rattle.cc2_findings.specs.declared.file.FileFault.{FileFault}
use Rattle.cc2_findings.specs.declared.file.FileFindings.{FileFindings}
use Rattle.cc2_lint_settings.specs.Keys.{Hidden}
use Rattle.cc2_reports.specs.Problems.{Subject, subjects_of}
use Rattle.cc2_reports.specs.declared.report.Report.{Report}
use Rattle.cc2_lint_settings.specs.Views.{table_of}
use Rattle.cc2_value.specs.Ways.{Flaw}
use Rattle.cc2_lint.specs.Accepted.{is_accepted}
use Rattle.cc2_lint.specs.Files.{Checked, IsNeverSilent, clashes_in, nth_list, rival_subjects, subjects_at_keys, subjects_in}
use Rattle.cc2_lint.specs.Subjects.{clash_subject, fault_subject, hidden_subject, key_subject, load_subjects, name_subjects, unresolved_subject, value_subject}

-- one that is there
first : {A : Type 0} (x : A) (xs : List A) → Contains (x ∷ xs) x
first x xs = (0, omega arith, refl)

none : {A : Type 0} (x : A) → Contains {X = A} [] x → ⊥
none x h = omega (arith, h.1)

-- where there are subjects there are reports of them, in any order
reported : (found reports : List Report) (ss : List Subject) (s : Subject) → IsPermutation found reports → subjects_of found ≡ ss
    → Contains ss s → reports ≢ []
reported [] reports ss s order are one empty = absurd (none s (subst (λ (xs : List Subject). Contains xs s) (sym are) one))
reported (r ∷ rs) reports ss s order are one empty =
    none r (subst (λ (xs : List Report). Contains xs r) empty (Contains-permutation (r ∷ rs) reports r order (first r rs)))

in_load : (name load rest : List Subject) (s : Subject) → load ≡ s ∷ [] → Contains (name ++ (load ++ rest)) s
in_load name load rest s is =
    Contains-append_right name (load ++ rest) s (subst (λ (ss : List Subject). Contains (ss ++ rest) s) (sym is) (first s rest))

-- a file with a fault has a subject: the fault, or a value
module _ (c : Checked) (n : ℕ) (f : LintedFile) (unresolved : List ValueFault) (clashes : List Clash) (hidden : List Hidden) where
  has_subject : (fault : FileFault) (values : List ValueFault) → f.found.fault ≡ Some fault → f.found.values.items ≡ values
      → (s : Subject) × Contains (subjects_in c n f unresolved clashes hidden) s
  has_subject fault [] is are = (
    fault_subject (path_of f) fault,
    in_load (name_subjects (path_of f) c.tree) (load_subjects (path_of f) f.found.fault f.found.values.items)
        (subjects_at_keys c n f unresolved clashes hidden) (fault_subject (path_of f) fault)
        (ap (λ (o : Option FileFault). load_subjects (path_of f) o f.found.values.items) is
        ∙ ap (λ (vs : List ValueFault). load_subjects (path_of f) (Some fault) vs) are),
  )
  has_subject fault (v ∷ vs) is are =
      let s = value_subject (path_of f) (is_accepted (table_of f) (map table_of c.files) clashes) v in
      let behind = map (unresolved_subject (path_of f)) unresolved
      ++ (map (clash_subject (path_of f)) clashes ++ (map (hidden_subject (path_of f)) hidden ++ rival_subjects (path_of f) c.rivals n)) in (
        s,
        Contains-append_right (name_subjects (path_of f) c.tree) _ s
            (Contains-append_right (load_subjects (path_of f) f.found.fault f.found.values.items) _ s
            (Contains-append_right _ _ s
            (Contains-append_right (map (λ k. key_subject (path_of f) (shown_fault k)) f.found.keys.items) _ s
            (subst (λ (xs : List ValueFault). Contains (map (value_subject (path_of f) (is_accepted (table_of f) (map table_of c.files) clashes)) xs
            ++ behind) s) (sym are) (first s (map (value_subject (path_of f) (is_accepted (table_of f) (map table_of c.files) clashes)) vs ++ behind)))))),
      )

  subject_by : (fault : Option FileFault) → f.found.fault ≡ fault → fault ≢ None
      → (s : Subject) × Contains (subjects_in c n f unresolved clashes hidden) s
  subject_by None is some = absurd (some refl)
  subject_by (Some fault) is some = has_subject fault f.found.values.items is refl

module _ (fs : Tree) (path : List ℕ) (refusal : Refusal) where
  -- a readable table without a fault isn't refused
  not_refused : (bytes : List ℕ) (ms : Members) → fs path ≡ Some (Some bytes) → IsUtf8 bytes → parse_document bytes ≡ Some ms
      → config_faults ms ≡ [] → IsFileCause fs path refusal → ⊥
  not_refused bytes ms has utf8 parsed faultless (inl h) = h.0 bytes has
  not_refused bytes ms has utf8 parsed faultless (inr (inl h)) =
      let same : h.0.0 ≡ bytes = cc (sym h.0.1 ∙ has) in
      h.0.2 (subst IsUtf8 (sym same) utf8)
  not_refused bytes ms has utf8 parsed faultless (inr (inr (inl h))) =
      let same : h.bytes ≡ bytes = cc (sym h.text.0 ∙ has) in
      cc (sym h.parsed ∙ ap parse_document same ∙ parsed)
  not_refused bytes ms has utf8 parsed faultless (inr (inr (inr h))) =
      let same : h.bytes ≡ bytes = cc (sym h.text.0 ∙ has) in
      let table : h.members ≡ ms = cc (sym h.parsed ∙ ap parse_document same ∙ parsed) in
      none h.flaw (subst (λ (flaws : List Flaw). Contains flaws h.flaw) (ap config_faults table ∙ faultless) h.fault)

  in_text : (bytes : List ℕ) (f : FileFindings) → fs path ≡ Some (Some bytes) → IsUtf8 bytes → AreOfText bytes f
      → IsFileCause fs path refusal → f.fault ≡ None → ⊥
  in_text bytes f has utf8 (inl h) cause without =
      not_refused bytes h.0 has utf8 h.1 (subst (λ (o : Option FileFault). IsValueFault h.0 o) without h.2.fault) cause
  in_text bytes f has utf8 (inr h) cause without = cc (sym h.1.1.fault_is ∙ without)

  in_bytes : (bytes : List ℕ) (f : FileFindings) → fs path ≡ Some (Some bytes) → AreOfBytes bytes f
      → IsFileCause fs path refusal → f.fault ≡ None → ⊥
  in_bytes bytes f has (inl h) cause without = in_text bytes f has h.0 h.1 cause without
  in_bytes bytes f has (inr h) cause without = cc (sym h.1.fault_is ∙ without)

  -- a file with a cause has a fault
  faulty : (f : FileFindings) → IsFileCause fs path refusal → IsLinted fs path f → f.fault ≢ None
  faulty f cause (inl h) without = in_bytes h.0 f h.1 h.2 cause without
  faulty f cause (inr h) without = cc (sym h.1.fault_is ∙ without)

pub never_silent : (c : Checked) (n : ℕ) (f : LintedFile) → IsNeverSilent c n f
never_silent c n f refusal reports cause linted own =
    let known = subject_by c n f own.0 (clashes_in c n f) (nth_list c.hidden n) f.found.fault refl
    (faulty c.tree (path_of f) refusal f.found cause linted) in
    reported own.1 reports (subjects_in c n f own.0 (clashes_in c n f) (nth_list c.hidden n)) known.0 own.7.same own.4 known.1
