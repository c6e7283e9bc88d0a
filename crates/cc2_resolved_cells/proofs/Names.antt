-- The cells of maps, name by name.
use Rattle.std.proofs.Common.{◌≡◌, ℕ, false, cond, List, [], ◌∷◌, ◌++◌, Some, String, BTreeMap, Global, Less, string_bytes}
use Rattle.std.proofs.Common.{refl, sym, ap, ◌∙◌, inl, inr, append_assoc}
use Rattle.std.proofs.lemmas.Bool.{false≢true}
use Rattle.std.proofs.lemmas.List.{append-nil}
use Rattle.std.proofs.lemmas.Map.Text.{is_eq-slice_cmp}
use Rattle.std.specs.List.{AllByRecursion}
use Rattle.std.specs.List.Sorted.{IsStrictlySortedBy}
use Rattle.std.specs.Map.{keys_of}
use Rattle.std.specs.Option.{option_to_list}
use Rattle.std.specs.Ordering.{is_eq}
use Rattle.std.specs.Str.{bytes_eq}
use Rattle.std.specs.String.{string_cmp}
use Rattle.cc2_value.specs.Cells.{field, name, KeyPath}
use Rattle.cc2_value.proofs.Found.{found, same_keys, found_here, same_bytes}
use Rattle.cc2_resolved.specs.Rows.{option_shown, names_at}
use Rattle.cc2_resolved_cells.specs.Cells.{ResolvedCell, ShownAnswers, answers_at, ShowExactly, cells_below, cells_of_map}
use Rattle.cc2_resolved_cells.proofs.Shown.{answers_at_root, answers_at_key}

module _ {V : Type 0} (cells : V → List ResolvedCell) (shown : V → ShownAnswers) where
  -- the cells of each member are what it shows
  abbrev pub AreAll : List (String Global × V) → Type 0
  AreAll es = AllByRecursion (λ e. ShowExactly (cells e.1) (shown e.1)) es

  pub one_more : (es : List (String Global × V)) (e : String Global × V) → AreAll es → ShowExactly (cells e.1) (shown e.1) → AreAll (es ++ e ∷ [])
  one_more [] e h here = (here, tt)
  one_more (d ∷ es) e h here = (h.0, one_more es e h.1 here)

  -- nothing is at the root, nor at a field
  root_at : (es : List (String Global × V)) → answers_at (cells_of_map cells es) [] ≡ []
  root_at [] = refl
  root_at (e ∷ es) = answers_at_root (name (string_bytes e.0)) (cells e.1) (cells_of_map cells es) ∙ root_at es

  field_at : (es : List (String Global × V)) (q : List ℕ) (p : KeyPath) → answers_at (cells_of_map cells es) (field q ∷ p) ≡ []
  field_at [] q p = refl
  field_at (e ∷ es) q p = answers_at_key (name (string_bytes e.0)) (field q) (cells e.1) (cells_of_map cells es) p ∙ field_at es q p

  -- a later key is another one
  apart : (k l : String Global) → string_cmp k l ≡ Less → bytes_eq (string_bytes l) (string_bytes k) ≡ false
  apart k l less =
      elim (same_keys (string_bytes l) (string_bytes k)) [
        | inl same ↦
            absurd (false≢true (ap is_eq (sym less) ∙ is_eq-slice_cmp (string_bytes k) (string_bytes l)
            ∙ ap (λ t. bytes_eq (string_bytes k) t) same ∙ same_bytes (string_bytes k)))
        | inr other ↦ other.0
      ]

  -- nothing is at a name before all that are there
  absent : (k : String Global) (es : List (String Global × V)) (p : KeyPath) → AllByRecursion (λ y. string_cmp k y ≡ Less) (keys_of es)
      → answers_at (cells_of_map cells es) (name (string_bytes k) ∷ p) ≡ []
  absent k [] p h = refl
  absent k (e ∷ es) p h =
      answers_at_key (name (string_bytes e.0)) (name (string_bytes k)) (cells e.1) (cells_of_map cells es) p
      ∙ ap (λ b. cond b (answers_at (cells e.1) p) [] ++ answers_at (cells_of_map cells es) (name (string_bytes k) ∷ p)) (apart k e.0 h.0)
      ∙ absent k es p h.1

  -- at a name are the answers of the member that is found there
  name_at : (es : List (String Global × V)) (q : List ℕ) (p : KeyPath) → IsStrictlySortedBy string_cmp (keys_of es) → AreAll es
      → answers_at (cells_of_map cells es) (name q ∷ p) ≡ option_to_list (option_shown shown (found q es) p)
  unfolding IsStrictlySortedBy
  name_at [] q p sorted all = refl
  name_at (e ∷ es) q p sorted all =
      answers_at_key (name (string_bytes e.0)) (name q) (cells e.1) (cells_of_map cells es) p
      ∙ elim (same_keys q (string_bytes e.0)) [
        | inl same ↦
            ap (λ t. cond (bytes_eq (string_bytes e.0) t) (answers_at (cells e.1) p) []
            ++ answers_at (cells_of_map cells es) (name t ∷ p)) same
            ∙ ap (λ b. cond b (answers_at (cells e.1) p) [] ++ answers_at (cells_of_map cells es) (name (string_bytes e.0) ∷ p))
            (same_bytes (string_bytes e.0))
            ∙ ap (λ l. answers_at (cells e.1) p ++ l) (absent e.0 es p sorted.0)
            ∙ append-nil (answers_at (cells e.1) p)
            ∙ all.0.are p
            ∙ ap (λ o. option_to_list (option_shown shown o p)) (sym (found_here [] e es sorted))
            ∙ ap (λ t. option_to_list (option_shown shown (found t (e ∷ es)) p)) (sym same)
        | inr (other, other') ↦
            ap (λ b. cond b (answers_at (cells e.1) p) [] ++ answers_at (cells_of_map cells es) (name q ∷ p)) other'
            ∙ name_at es q p sorted.1 all.1
            ∙ ap (λ b. option_to_list (option_shown shown (cond b (Some e.1) (found q es)) p)) (sym (is_eq-slice_cmp q (string_bytes e.0) ∙ other))
      ]

  -- the cells of a map are those of its members
  pub names_are : (m : BTreeMap (String Global) V) → IsStrictlySortedBy string_cmp (keys_of m.entries) → AreAll m.entries
      → ShowExactly (cells_of_map cells m.entries) (names_at shown m)
  names_are m sorted all = record { are = at }
    where
      at : (p : KeyPath) → answers_at (cells_of_map cells m.entries) p ≡ option_to_list (names_at shown m p)
      at [] = root_at m.entries
      at (field q ∷ p) = field_at m.entries q p
      at (name q ∷ p) = name_at m.entries q p sorted all

  -- no entry is left
  pub none_left : (es done left : List (String Global × V)) → es ≡ done ++ left → left ≡ [] → es ≡ done
  none_left es done left whole none = whole ∙ ap (λ more. done ++ more) none ∙ append-nil done

  -- the cells of entries, and of one more
  pub cells_more : (es : List (String Global × V)) (e : String Global × V)
      → cells_of_map cells (es ++ e ∷ []) ≡ cells_of_map cells es ++ cells_below (name (string_bytes e.0)) (cells e.1)
  cells_more [] e = append-nil (cells_below (name (string_bytes e.0)) (cells e.1))
  cells_more (d ∷ es) e =
      ap (λ cs. cells_below (name (string_bytes d.0)) (cells d.1) ++ cs) (cells_more es e)
      ∙ sym (append_assoc (cells_below (name (string_bytes d.0)) (cells d.1)) (cells_of_map cells es) (cells_below (name (string_bytes e.0)) (cells e.1)))
