-- The cells of flat tables below `target` are those of a state that has their entries.
use Rattle.std.proofs.Common.{
  ◌≡◌,
  ℕ,
  List,
  [],
  ◌∷◌,
  All,
  map,
  true,
  false,
  Bool,
  Option,
  Some,
  None,
  option_map,
  String,
  Global,
  string_bytes,
  codes,
  refl,
  sym,
  ap,
  subst,
  ◌∙◌,
  if◌then◌else◌,
}
use Rattle.std.specs.BTreeMap.{get_by_text}
use Rattle.std.specs.Cmp.Lexicographic.{slice_cmp}
use Rattle.std.specs.Map.{lookup}
use Rattle.std.specs.Ordering.{is_eq, nat_cmp}
use Rattle.std.specs.Str.{bytes_eq}
use Rattle.std.proofs.lemmas.List.Elements.{All-head, All-tail}
use Rattle.cc2_value.specs.Cells.{field, name, KeyPath, Cell}
use Rattle.cc2_value.specs.Shown.{map_at, option_at}
use Rattle.cc2_value.specs.Singles.{text_value}
use Rattle.cc2_value.specs.declared.value.Value.{Value}
use Rattle.cc2_leaf.specs.Commands.{command_value}
use Rattle.cc2_leaf.specs.Lists.{flags_value}
use Rattle.cc2_leaf.specs.declared.flags.Flags.{Flags}
use Rattle.cc2_leaf.specs.declared.path_and_args.PathAndArgs.{PathAndArgs}
use Rattle.cc2_target_table.specs.Target.{below_target, in_found, target_at}
use Rattle.cc2_target_table.specs.declared.target.Node.{Node}
use Rattle.cc2_target_table.specs.declared.target.TargetConfig.{TargetConfig}
use Rattle.cc2_state.specs.Shown.{cell_alone, saved_cells, saved_entry, saved_table, tables_cells, table_found, AreFlatTables, IsFlatTable}
use Rattle.cc2_state.specs.State.{LoadState, Table}
use Rattle.cc2_state.specs.Views.{ShowsEntries, Tables}
use Rattle.cc2_state.proofs.Found.{by_text, found_in}

text_alone : (v : Option (Value (String Global))) (p : KeyPath) → text_value v p ≡ cell_alone (text_value v []) p
text_alone v [] = refl
text_alone None (k ∷ p) = refl
text_alone (Some x) (k ∷ p) = refl

command_alone : (v : Option PathAndArgs) (p : KeyPath) → command_value v p ≡ cell_alone (command_value v []) p
command_alone v [] = refl
command_alone None (k ∷ p) = refl
command_alone (Some x) (k ∷ p) = refl

flags_alone : (v : Option Flags) (p : KeyPath) → flags_value v p ≡ cell_alone (flags_value v []) p
flags_alone v [] = refl
flags_alone None (k ∷ p) = refl
flags_alone (Some x) (k ∷ p) = refl

either : (b : Bool) (x y z w : Option Cell) → x ≡ y → z ≡ w → (if b then x else z) ≡ (if b then y else w)
either true x y z w one other = one
either false x y z w one other = other

-- a flat table shows the cells of its fields, and nothing else
table_shows : (t : TargetConfig) (p : KeyPath) → IsFlatTable t → target_at t p ≡ saved_cells (Some (saved_table t)) p
table_shows t [] flat = refl
table_shows t (field k ∷ p) flat =
    either (bytes_eq (codes "linker") k) _ _ _ _ (text_alone t.linker p)
    (either (bytes_eq (codes "runner") k) _ _ _ _ (command_alone t.runner p)
    (either (bytes_eq (codes "rustflags") k) _ _ _ _ (flags_alone t.rustflags p)
    (either (bytes_eq (codes "rustdocflags") k) _ _ _ _ (flags_alone t.rustdocflags p) refl)))
table_shows t (name k ∷ p) flat = ap (λ (es : List (String Global × Node)). in_found p (below_target p) (lookup (λ n. is_eq (slice_cmp nat_cmp k (string_bytes n))) es)) flat

shown_at : (found : Option TargetConfig) (saved : Option Table) (p : KeyPath) → option_map saved_table found ≡ saved
    → ((t : TargetConfig) → found ≡ Some t → IsFlatTable t) → option_at target_at found p ≡ saved_cells saved p
shown_at None saved p is flat = ap (λ (s : Option Table). saved_cells s p) is
shown_at (Some t) saved p is flat = table_shows t p (flat t refl) ∙ ap (λ (s : Option Table). saved_cells s p) is

-- a map that shows the entries of a state has the state's cells
pub tables_shown : (s : LoadState) (tables : Tables) → ShowsEntries s.tables tables → (p : KeyPath) → map_at target_at tables p ≡ tables_cells s p
tables_shown s tables shows [] = refl
tables_shown s tables shows (field k ∷ p) = refl
tables_shown s tables shows (name k ∷ p) = shown_at (get_by_text tables k) (table_found s.tables k) p (shows.shows k) (shows.flat k)

found_flat : (k : List ℕ) (es : List (String Global × TargetConfig)) (t : TargetConfig) → All (λ (e : String Global × TargetConfig). IsFlatTable e.1) es
    → lookup (by_text k) es ≡ Some t → IsFlatTable t
found_flat k [] t flat h = cc
found_flat k (e ∷ es) t flat h =
    by (by_text k e.0) h (λ rest. found_flat k es t (All-tail (λ (e : String Global × TargetConfig). IsFlatTable e.1) e es flat) rest)
  where
    unwrapped : Option TargetConfig → TargetConfig
    unwrapped None = e.1
    unwrapped (Some w) = w

    by : (b : Bool) → (if b then Some e.1 else lookup (by_text k) es) ≡ Some t → (lookup (by_text k) es ≡ Some t → IsFlatTable t) → IsFlatTable t
    by true h later = subst IsFlatTable (ap (λ (o : Option TargetConfig). unwrapped o) h) (All-head (λ (e : String Global × TargetConfig). IsFlatTable e.1) e es flat)
    by false h later = later h

-- the entries of flat tables are shown by them
pub entries_shown : (tables : Tables) → AreFlatTables tables → ShowsEntries (map saved_entry tables.entries) tables
entries_shown tables flat = record {
  shows = λ k. sym (found_in k tables.entries);
  flat = λ k t h. found_flat k tables.entries t flat h;
}
