-- What is reported of the files that are checked together.
use Rattle.std.specs.Prelude.{◌≡◌, ◌≢◌, ◌⊎◌, All, ℕ, suc, Bool, false, ◌&&◌, slice_get, unwrap_or, List, [], ◌∷◌, ◌++◌, map, flat_map, take, option_map, string_bytes, Option, Some, None, Vec}
use Rattle.std.specs.Str.{IsUtf8}
use Rattle.std.specs.declared.alloc.Global.{Global}
use Rattle.cc2_base.specs.Paths.{parent_of, same_path}
use Rattle.cc2_base.specs.Told.{Tree}
use Rattle.cc2_de.specs.ConfigFile.{IsFileCause}
use Rattle.cc2_error.specs.Causes.{Refusal}
use Rattle.cc2_findings.specs.Clashes.{Clash, clashes_of}
use Rattle.cc2_findings.specs.ClashViews.{clash_view, file_view}
use Rattle.cc2_findings.specs.Dirs.{path_of}
use Rattle.cc2_findings.specs.Files.{IsLinted}
use Rattle.cc2_findings.specs.FindingViews.{finding_view}
use Rattle.cc2_findings.specs.Findings.{Found}
use Rattle.cc2_findings.specs.KeyFindings.{shown_fault}
use Rattle.cc2_findings.specs.declared.alone.ValueFault.{ValueFault}
use Rattle.cc2_findings.specs.declared.dir.LintedFile.{LintedFile}
use Rattle.cc2_findings.specs.declared.kind.Kind.{Kind}
use Rattle.cc2_lint_settings.specs.HiddenViews.{hidden_view}
use Rattle.cc2_lint_settings.specs.Keys.{Hidden}
use Rattle.cc2_lint_settings.specs.Rivals.{Rival}
use Rattle.cc2_lint_settings.specs.Views.{rival_views, table_of}
use Rattle.cc2_lint_settings.specs.Unresolved.{AreUnresolved}
use Rattle.cc2_reports.specs.Order.{AreInOrder}
use Rattle.cc2_reports.specs.Positions.{IsPlaced}
use Rattle.cc2_reports.specs.Problems.{Subject, subjects_of}
use Rattle.cc2_reports.specs.declared.report.Report.{Report}
use Rattle.cc2_lint.specs.Accepted.{is_accepted}
use Rattle.cc2_lint.specs.declared.files.Beside.{Beside}
use Rattle.cc2_lint.specs.declared.files.Check.{Check}
use Rattle.cc2_lint.specs.declared.rivals.Rivals.{Rivals}
use Rattle.cc2_lint.specs.Subjects.{clash_subject, finding_subjects, has_token, hidden_subject, key_subject, load_subjects, name_subjects, rival_subject, unresolved_subject, value_subject}

-- the list of this number; none where there are fewer
abbrev pub nth_list : {A : Type 0} → List (List A) → ℕ → List A
nth_list all n = unwrap_or (slice_get all n) []

abbrev pub vec_items : {A : Type 0} → Option (Vec A Global) → List A
vec_items None = []
vec_items (Some v) = v.items

-- the same list of the code
abbrev pub items_at : {A : Type 0} → List (Vec A Global) → ℕ → List A
items_at all n = vec_items (slice_get all n)

abbrev pub rivals_view : Rivals → List (List Rival)
rivals_view r = rival_views r.found

-- the folder of a file is the cargo home
abbrev pub is_folder : Option (List ℕ) → Option (List ℕ) → Bool
is_folder None home = false
is_folder (Some folder) None = false
is_folder (Some folder) (Some home) = same_path folder home

abbrev pub is_in_home : List ℕ → Option (List ℕ) → Bool
is_in_home file home = is_folder (parent_of file) home

-- the files that are checked together, and what surrounds them
pub record Checked : Type 0 where
  pub tree : Tree
  -- the directory from which relative values are resolved
  pub dir : List ℕ
  pub files : List LintedFile
  -- of each file the keys that variables override
  pub hidden : List (List Hidden)
  -- for each target, of each file the keys that match it beside another
  pub rivals : List (List (List Rival))
  pub home : Option (List ℕ)
  -- others than its owner can read the file at a path
  pub is_open : List ℕ → Bool

abbrev pub findings_of : LintedFile → List (Found Kind)
findings_of f = map finding_view f.found.findings.items

-- of the file of this number the keys that match a target beside another key, for all targets in turn
abbrev pub rival_subjects : List ℕ → List (List (List Rival)) → ℕ → List Subject
rival_subjects file rivals n = flat_map (λ found. map (rival_subject file) (nth_list found n)) rivals

-- this is the text of the file; empty where its content isn't UTF-8
abbrev pub IsFileText : LintedFile → List ℕ → Type 0
IsFileText f text = (IsUtf8 f.content.items × (text ≡ f.content.items)) ⊎ (¬ (IsUtf8 f.content.items) × (text ≡ []))

-- what is checked, by the code's record of it
abbrev pub checked_in : Tree → (List ℕ → Bool) → Check → Checked
checked_in fs is_open c = record {
  tree = fs;
  dir = c.dir.now;
  files = c.linted.now;
  hidden = map (λ keys. map hidden_view keys.items) c.hidden.now;
  rivals = map rivals_view c.rivals.now;
  home = option_map string_bytes c.home.now;
  is_open = is_open;
}

module _ (c : Checked) (n : ℕ) (f : LintedFile) where
  -- what the nearer files set too
  abbrev pub clashes_in : List Clash
  clashes_in = clashes_of (map file_view (take n c.files)) (table_of f)

  -- what is reported of the keys of the file of this number, whose values are resolved but for these: what is found at
  -- them, values that a load refuses, and keys that are set elsewhere too
  abbrev pub subjects_at_keys : List ValueFault → List Clash → List Hidden → List Subject
  subjects_at_keys unresolved clashes hidden =
      flat_map (finding_subjects (path_of f) (has_token (findings_of f) && c.is_open (path_of f)) (is_in_home (path_of f) c.home)) (findings_of f)
      ++ (map (λ k. key_subject (path_of f) (shown_fault k)) f.found.keys.items
      ++ (map (value_subject (path_of f) (is_accepted (table_of f) (map table_of c.files) clashes)) f.found.values.items
      ++ (map (unresolved_subject (path_of f)) unresolved
      ++ (map (clash_subject (path_of f)) clashes
      ++ (map (hidden_subject (path_of f)) hidden
      ++ rival_subjects (path_of f) c.rivals n)))))

  -- the same and what is reported of the file as a whole
  abbrev pub subjects_in : List ValueFault → List Clash → List Hidden → List Subject
  subjects_in unresolved clashes hidden =
      name_subjects (path_of f) c.tree
      ++ (load_subjects (path_of f) f.found.fault f.found.values.items ++ subjects_at_keys unresolved clashes hidden)

  -- the same by the code's record of what surrounds the file
  abbrev pub subjects_beside : Beside → List Subject
  subjects_beside b = subjects_at_keys b.unresolved.items (map clash_view b.clashes.items) (map hidden_view b.hidden.now)

  abbrev pub all_subjects : Beside → List Subject
  all_subjects b = subjects_in b.unresolved.items (map clash_view b.clashes.items) (map hidden_view b.hidden.now)

  -- these are the reports of the file, in the order of its lines, with their positions in its text
  abbrev pub AreReportsOf : List Report → Type 0
  AreReportsOf reports =
      (unresolved : List ValueFault) × (found : List Report) × (text : List ℕ)
      × AreUnresolved c.dir (path_of f) (table_of f) unresolved
      × (subjects_of found ≡ subjects_in unresolved clashes_in (nth_list c.hidden n))
      × IsFileText f text × All (IsPlaced text) found × AreInOrder found reports

-- these are the reports of the files from this number on, one file after another
abbrev pub AreReportsOfAll : Checked → ℕ → List LintedFile → List Report → Type 0
AreReportsOfAll c n [] reports = reports ≡ []
AreReportsOfAll c n (f ∷ fs) reports =
    (own : List Report) × (others : List Report) × (reports ≡ own ++ others)
    × AreReportsOf c n f own × AreReportsOfAll c (suc n) fs others

-- where a load refuses the file, it has a report
abbrev pub IsNeverSilent : Checked → ℕ → LintedFile → Type 0
IsNeverSilent c n f =
    (refusal : Refusal) (reports : List Report) → IsFileCause c.tree (path_of f) refusal → IsLinted c.tree (path_of f) f.found
    → AreReportsOf c n f reports → reports ≢ []
