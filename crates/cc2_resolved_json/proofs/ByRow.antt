-- The JSON of tables, row by row.
use Rattle.std.proofs.Common.{◌≡◌, ℕ, Bool, true, false, cond, List, [], ◌∷◌, Option, Some, None, String, Global, refl, sym, ap, ◌∙◌}
use Rattle.std.specs.Str.{bytes_eq}
use Rattle.serde_json.specs.Data.{Data, object}
use Rattle.serde_json.specs.View.{view, members_view}
use Rattle.serde_json.specs.declared.value.Value.{Value}
use Rattle.cc2_value.specs.Cells.{Key, field, name, KeyPath, Cell, Entry}
use Rattle.cc2_value.specs.Rows.{are_distinct, part_at}
use Rattle.cc2_json.proofs.Trees.{row_proper, row_shows}
use Rattle.cc2_json.specs.Json.{put_branches, ArePut, IsJsonOf, IsObjectOf}
use Rattle.cc2_json.specs.Trees.{Tree, table, tree_at, branch_at, row_branches, AreProper, AreTreesOf}
use Rattle.cc2_resolved.specs.Answers.{Answer}
use Rattle.cc2_resolved.specs.Rows.{Row, shown_in, rows_at, entry_shown}
use Rattle.cc2_resolved_json.specs.Plain.{plain_at, without_origins}
use Rattle.cc2_resolved_json.specs.Rows.{keys_of_rows, looks_of_rows}
use Rattle.cc2_resolved_json.proofs.Cells.{plain_none}

either : (b : Bool) (f g : KeyPath → Option Answer) (x : Option Cell) (p : KeyPath) → x ≡ plain_at g p → cond b (plain_at f p) x ≡ plain_at (λ q. cond b (f q) (g q)) p
either true f g x p h = refl
either false f g x p h = h

-- what a row shows is the part at its key
pub same_row : {A : Type 0} (rs : List (Row A)) (a : A) (q : List ℕ) (p : KeyPath) → part_at (keys_of_rows rs) (looks_of_rows rs a) q p ≡ plain_at (λ s. shown_in rs a q s) p
same_row [] a q p = sym (plain_none p)
same_row (r ∷ rs) a q p = either (bytes_eq r.key q) (r.shows a) (λ s. shown_in rs a q s) _ p (same_row rs a q p)

module _ {A : Type 0} (rows : List (Row A)) (a : A) (ts : List Tree) (of : AreTreesOf (looks_of_rows rows a) ts) where
  -- the trees of a table's fields have its cells, each at its key
  field_shown : (q : List ℕ) (p : KeyPath) → branch_at (row_branches (keys_of_rows rows) ts) (field q) p ≡ plain_at (λ s. shown_in rows a q s) p
  field_shown q p = row_shows (keys_of_rows rows) (looks_of_rows rows a) ts of (field q) p ∙ same_row rows a q p

  name_shown : (q : List ℕ) (p : KeyPath) → branch_at (row_branches (keys_of_rows rows) ts) (name q) p ≡ plain_at (λ s. None) p
  name_shown q p = row_shows (keys_of_rows rows) (looks_of_rows rows a) ts of (name q) p ∙ sym (plain_none p)

  rows_shown : (k : Key) (p : KeyPath) → branch_at (row_branches (keys_of_rows rows) ts) k p ≡ plain_at (rows_at rows a) (k ∷ p)
  rows_shown (field q) p = field_shown q p
  rows_shown (name q) p = name_shown q p

  member_shown : (k : Key) (p : KeyPath) → branch_at (row_branches (keys_of_rows rows) ts) k p ≡ plain_at (entry_shown rows a) (k ∷ p)
  member_shown (field q) p = field_shown q p
  member_shown (name q) p = name_shown q p

module _ {A : Type 0} (tokens : Bool) (rows : List (Row A)) (a : A) (x y : List (String Global × Value)) (distinct : are_distinct (keys_of_rows rows) ≡ true) (none : x ≡ [])
    (put : ArePut (without_origins tokens) (keys_of_rows rows) (looks_of_rows rows a) x y) where
  proper : AreProper (row_branches (keys_of_rows rows) put.trees)
  proper = row_proper (keys_of_rows rows) (looks_of_rows rows a) put.trees put.of distinct

  members_are : members_view y ≡ put_branches (without_origins tokens) (row_branches (keys_of_rows rows) put.trees) (members_view [])
  members_are = put.are ∙ ap (λ l. put_branches (without_origins tokens) (row_branches (keys_of_rows rows) put.trees) (members_view l)) none

  -- a table whose fields are put in an object
  pub table_json : (json : Value) → view json ≡ object (members_view y) → IsJsonOf (without_origins tokens) (plain_at (rows_at rows a)) (Some json)
  table_json json is =
      record { tree = table None (row_branches (keys_of_rows rows) put.trees); of = record { proper = (refl, proper); shows = at }; is = ap Some (is ∙ ap object members_are) }
    where
      at : (p : KeyPath) → tree_at (table None (row_branches (keys_of_rows rows) put.trees)) p ≡ plain_at (rows_at rows a) p
      at [] = refl
      at (k ∷ p) = rows_shown rows a put.trees put.of k p

  -- the same of a table that is a member of a map
  pub entry_json : (json : Value) → view json ≡ object (members_view y) → IsJsonOf (without_origins tokens) (plain_at (entry_shown rows a)) (Some json)
  entry_json json is =
      record { tree = table (Some Entry) (row_branches (keys_of_rows rows) put.trees); of = record { proper = (refl, proper); shows = at }; is = ap Some (is ∙ ap object members_are) }
    where
      at : (p : KeyPath) → tree_at (table (Some Entry) (row_branches (keys_of_rows rows) put.trees)) p ≡ plain_at (entry_shown rows a) p
      at [] = refl
      at (k ∷ p) = member_shown rows a put.trees put.of k p

  -- the object itself
  pub object_json : (d : Data) → d ≡ object (members_view y) → IsObjectOf (without_origins tokens) (plain_at (rows_at rows a)) d
  object_json d is =
      record { branches = row_branches (keys_of_rows rows) put.trees; proper = proper; shows = rows_shown rows a put.trees put.of; is = is ∙ ap object members_are }
