-- The cells of tables, row by row.
use Rattle.std.proofs.Common.{◌≡◌, ℕ, not, Bool, true, false, cond, List, [], ◌∷◌, ◌++◌, refl, sym, ap, ◌∙◌, inl, inr}
use Rattle.std.proofs.lemmas.Bool.{and_parts, false≢true, not-true, or_parts}
use Rattle.std.proofs.lemmas.List.{append-nil}
use Rattle.std.proofs.lemmas.Slice.Eq.{bytes_eq-Decides}
use Rattle.std.specs.List.{list_any}
use Rattle.std.specs.Option.{option_to_list}
use Rattle.std.specs.Str.{bytes_eq}
use Rattle.cc2_value.specs.Cells.{field, name, KeyPath}
use Rattle.cc2_value.specs.Rows.{are_distinct}
use Rattle.cc2_value.proofs.Found.{same_keys, same_bytes}
use Rattle.cc2_resolved.specs.Answers.{Answer, entry}
use Rattle.cc2_resolved.specs.Rows.{Row, shown_in, rows_at, entry_shown}
use Rattle.cc2_resolved_cells.specs.Cells.{ResolvedCell, answers_at, ShowExactly, AllShowExactly, row_cells, entry_cells, row_keys, row_looks}
use Rattle.cc2_resolved_cells.proofs.Shown.{answers_at_root, answers_at_key}

-- nothing is at the root, nor at a name
root_at : (ks : List (List ℕ)) (parts : List (List ResolvedCell)) → answers_at (row_cells ks parts) [] ≡ []
root_at [] parts = refl
root_at (k ∷ ks) [] = refl
root_at (k ∷ ks) (cells ∷ parts) = answers_at_root (field k) cells (row_cells ks parts) ∙ root_at ks parts

name_at : (ks : List (List ℕ)) (parts : List (List ResolvedCell)) (q : List ℕ) (p : KeyPath) → answers_at (row_cells ks parts) (name q ∷ p) ≡ []
name_at [] parts q p = refl
name_at (k ∷ ks) [] q p = refl
name_at (k ∷ ks) (cells ∷ parts) q p = answers_at_key (field k) (name q) cells (row_cells ks parts) p ∙ name_at ks parts q p

-- nothing is at a key that the row doesn't have
absent : (ks : List (List ℕ)) (parts : List (List ResolvedCell)) (q : List ℕ) (p : KeyPath) → list_any (bytes_eq q) ks ≡ false
    → answers_at (row_cells ks parts) (field q ∷ p) ≡ []
absent [] parts q p h = refl
absent (k ∷ ks) [] q p h = refl
absent (k ∷ ks) (cells ∷ parts) q p h =
    let apart = or_parts (bytes_eq q k) (list_any (bytes_eq q) ks) h in
    answers_at_key (field k) (field q) cells (row_cells ks parts) p
    ∙ ap (λ b. cond b (answers_at cells p) [] ++ answers_at (row_cells ks parts) (field q ∷ p)) (other k q apart.0)
    ∙ absent ks parts q p apart.1
  where
    -- which of two texts is compared with the other doesn't matter
    other : (k q : List ℕ) → bytes_eq q k ≡ false → bytes_eq k q ≡ false
    other k q h =
        elim (same_keys q k) [
          | inl same ↦ absurd (false≢true (sym h ∙ ap (bytes_eq q) (sym same) ∙ same_bytes q))
          | inr apart ↦ apart.1
        ]

module _ {A : Type 0} (a : A) where
  -- at a field's key are the answers of the row that has it
  field_at : (rows : List (Row A)) (parts : List (List ResolvedCell)) (q : List ℕ) (p : KeyPath) → are_distinct (row_keys rows) ≡ true
      → AllShowExactly parts (row_looks rows a) → answers_at (row_cells (row_keys rows) parts) (field q ∷ p) ≡ option_to_list (shown_in rows a q p)
  field_at [] parts q p distinct all = refl
  field_at (r ∷ rows) [] q p distinct all = absurd all
  field_at (r ∷ rows) (cells ∷ parts) q p distinct all =
      answers_at_key (field r.key) (field q) cells (row_cells (row_keys rows) parts) p
      ∙ go (bytes_eq r.key q) refl (field_at rows parts q p apart.1 all.1)
    where
      apart : (not (list_any (bytes_eq r.key) (row_keys rows)) ≡ true) × (are_distinct (row_keys rows) ≡ true)
      apart = and_parts (not (list_any (bytes_eq r.key) (row_keys rows))) (are_distinct (row_keys rows)) distinct

      others : List Answer
      others = answers_at (row_cells (row_keys rows) parts) (field q ∷ p)

      go : (b : Bool) → bytes_eq r.key q ≡ b → others ≡ option_to_list (shown_in rows a q p)
          → cond b (answers_at cells p) [] ++ others ≡ option_to_list (cond b (r.shows a p) (shown_in rows a q p))
      go true is rest =
          ap (λ l. answers_at cells p ++ l)
          (absent (row_keys rows) parts q p (ap (λ k. list_any (bytes_eq k) (row_keys rows)) (sym ((bytes_eq-Decides r.key q).0 is))
          ∙ not-true (list_any (bytes_eq r.key) (row_keys rows)) apart.0))
          ∙ append-nil (answers_at cells p)
          ∙ all.0.are p
      go false is rest = rest

  module _ (rows : List (Row A)) (parts : List (List ResolvedCell)) (distinct : are_distinct (row_keys rows) ≡ true)
      (all : AllShowExactly parts (row_looks rows a)) where
    -- the cells of a table are those of its fields
    pub table_are : ShowExactly (row_cells (row_keys rows) parts) (rows_at rows a)
    table_are = record { are = at }
      where
        at : (p : KeyPath) → answers_at (row_cells (row_keys rows) parts) p ≡ option_to_list (rows_at rows a p)
        at [] = root_at (row_keys rows) parts
        at (field q ∷ p) = field_at rows parts q p distinct all
        at (name q ∷ p) = name_at (row_keys rows) parts q p

    -- and with its own, where it is a member of a map
    pub entry_are : ShowExactly (entry_cells (row_cells (row_keys rows) parts)) (entry_shown rows a)
    entry_are = record { are = at }
      where
        at : (p : KeyPath) → answers_at (entry_cells (row_cells (row_keys rows) parts)) p ≡ option_to_list (entry_shown rows a p)
        at [] = ap (λ l. entry ∷ l) (root_at (row_keys rows) parts)
        at (field q ∷ p) = field_at rows parts q p distinct all
        at (name q ∷ p) = name_at (row_keys rows) parts q p
