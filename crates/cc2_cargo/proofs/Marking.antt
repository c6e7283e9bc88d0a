-- The marks of files that are read.
use Rattle.std.proofs.Common.{◌≡◌, ℕ, List, [], ◌∷◌, Bool, true, false, ◌||◌, cond, Global, String, refl, sym, ap, ◌∙◌}
use Rattle.std.specs.Prelude.{bytes_eq}
use Rattle.std.specs.BTreeSet.{BTreeSet, contains_text}
use Rattle.std.proofs.lemmas.List.Folds.{list_any-append}
use Rattle.std.proofs.lemmas.Slice.Eq.{bytes_eq-Decides}
use Rattle.cc2_base.specs.Paths.{components_of, same_path}
use Rattle.cc2_base.proofs.Parents.{same_texts-Decides}
use Rattle.cc2_cargo.specs.Expanding.{ConfigFile, is_read}
use Rattle.cc2_cargo.specs.Readings.{AreMarked, AreMarkedWith, ended_by_slashes, path_mark}

-- one path has one mark
pub same_mark : (p q : List ℕ) → same_path p q ≡ true → path_mark p ≡ path_mark q
unfolding same_path
same_mark p q same = ap ended_by_slashes ((same_texts-Decides (components_of p) (components_of q)).0 same)

-- the last one passes, where one does and none before it
last_read : (x y : Bool) → (x || (y || false)) ≡ true → (x ≡ false) → y ≡ true
last_read false true e f = refl
last_read false false e f = e
last_read true y e f = absurd cc

-- with the mark of one more file, all of them are marked
pub marked_more : (marks more : BTreeSet (String Global)) (read : List ConfigFile) (path : List ℕ) → AreMarked marks read
    → ((mark : List ℕ) → contains_text more mark ≡ cond (bytes_eq (path_mark path) mark) true (contains_text marks mark))
    → AreMarkedWith more read path
marked_more marks more read path marked adds members p h = adds (path_mark p) ∙ by (is_read p read) refl
  where
    one : ConfigFile
    one = record { path = path; members = members }

    either : (is_read p read || (same_path path p || false)) ≡ true
    either = sym (list_any-append (λ s. same_path s.path p) read (one ∷ [])) ∙ h

    kept : (t : Bool) → cond t true true ≡ true
    kept true = refl
    kept false = refl

    by : (t : Bool) → is_read p read ≡ t → cond (bytes_eq (path_mark path) (path_mark p)) true (contains_text marks (path_mark p)) ≡ true
    by true e = ap (cond (bytes_eq (path_mark path) (path_mark p)) true) (marked p e) ∙ kept (bytes_eq (path_mark path) (path_mark p))
    by false e = ap (λ t. cond t true (contains_text marks (path_mark p)))
        ((bytes_eq-Decides (path_mark path) (path_mark p)).1 (same_mark path p (last_read (is_read p read) (same_path path p) either e)))
