-- Tables that are found at keys, in a map and in the entries of a state.
use Rattle.std.proofs.Common.{
  ◌≡◌,
  ℕ,
  List,
  [],
  ◌∷◌,
  ◌++◌,
  map,
  true,
  false,
  Bool,
  Option,
  Some,
  None,
  option_map,
  String,
  Global,
  string_bytes,
  refl,
  sym,
  ap,
  subst,
  ◌∙◌,
  if◌then◌else◌,
}
use Rattle.std.specs.BTreeMap.{get_by_text}
use Rattle.std.specs.Cmp.Lexicographic.{slice_cmp}
use Rattle.std.specs.Map.{lookup}
use Rattle.std.specs.Ordering.{is_eq, nat_cmp}
use Rattle.std.specs.Str.{bytes_eq}
use Rattle.std.proofs.lemmas.Map.Text.{is_eq-slice_cmp}
use Rattle.cc2_target_table.specs.declared.target.TargetConfig.{TargetConfig}
use Rattle.cc2_state.specs.Shown.{IsFlatTable, saved_entry, table_found, saved_table}
use Rattle.cc2_state.specs.State.{Table}
use Rattle.cc2_state.specs.Views.{ShowsEntries, Tables, first_kept}

-- the test by which a text looks a key up
abbrev pub by_text : List ℕ → String Global → Bool
by_text k n = is_eq (slice_cmp nat_cmp k (string_bytes n))

found_at : (b : Bool) (t : TargetConfig) (shown : Option Table) (others : Option TargetConfig) → shown ≡ option_map saved_table others
    → (if b then Some (saved_table t) else shown) ≡ option_map saved_table (if b then Some t else others)
found_at true t shown others is = refl
found_at false t shown others is = is

-- what a map's entries show at a key is what the map has there
pub found_in : (k : List ℕ) (es : List (String Global × TargetConfig)) → table_found (map saved_entry es) k ≡ option_map saved_table (lookup (by_text k) es)
found_in k [] = refl
found_in k (e ∷ es) =
    ap (λ (b : Bool). if b then Some (saved_table e.1) else table_found (map saved_entry es) k) (sym (is_eq-slice_cmp k (string_bytes e.0)))
    ∙ found_at (by_text k e.0) e.1 (table_found (map saved_entry es) k) (lookup (by_text k) es) (found_in k es)

first_at : (b : Bool) (t : Table) (all others : Option Table) (is : Bool) (u : Table) → all ≡ first_kept others is u
    → (if b then Some t else all) ≡ first_kept (if b then Some t else others) is u
first_at true t all others is u h = refl
first_at false t all others is u h = h

-- of entries with one more after them the first counts
pub found_more : (k : List ℕ) (es : List (List ℕ × Table)) (e : List ℕ × Table)
    → table_found (es ++ e ∷ []) k ≡ first_kept (table_found es k) (bytes_eq k e.0) e.1
found_more k [] e = refl
found_more k (d ∷ es) e = first_at (bytes_eq k d.0) d.1 (table_found (es ++ e ∷ []) k) (table_found es k) (bytes_eq k e.0) e.1 (found_more k es e)

mapped : (t : Option TargetConfig) (b : Bool) (u : TargetConfig) → option_map saved_table (first_kept t b u) ≡ first_kept (option_map saved_table t) b (saved_table u)
mapped (Some t) b u = refl
mapped None true u = refl
mapped None false u = refl

flat_of : (t : Option TargetConfig) (b : Bool) (u v : TargetConfig) → ((w : TargetConfig) → t ≡ Some w → IsFlatTable w) → IsFlatTable u
    → first_kept t b u ≡ Some v → IsFlatTable v
flat_of (Some t) b u v flat is h = flat v h
flat_of None true u v flat is h = subst IsFlatTable (ap (λ (o : Option TargetConfig). unwrapped o) h) is
  where
    unwrapped : Option TargetConfig → TargetConfig
    unwrapped None = u
    unwrapped (Some w) = w
flat_of None false u v flat is h = cc

-- no table was read yet
pub none_read : (tables : Tables) → tables.entries ≡ [] → ShowsEntries [] tables
none_read tables none = record {
  shows = λ k. ap (λ es. option_map saved_table (lookup (by_text k) es)) none;
  flat = λ k t h. cc_of (sym (ap (λ es. lookup (by_text k) es) none) ∙ h);
}
  where
    cc_of : {t : TargetConfig} → None ≡ Some t → IsFlatTable t
    cc_of h = cc

-- one more was read
pub one_read : (entries : List (List ℕ × Table)) (was now : Tables) (key : String Global) (table : TargetConfig) → ShowsEntries entries was → IsFlatTable table
    → ((k : List ℕ) → get_by_text now k ≡ first_kept (get_by_text was k) (bytes_eq k (string_bytes key)) table)
    → ShowsEntries (entries ++ saved_entry (key, table) ∷ []) now
one_read entries was now key table of flat put = record {
  shows = λ k.
      ap (option_map saved_table) (put k) ∙ mapped (get_by_text was k) (bytes_eq k (string_bytes key)) table
      ∙ ap (λ (t : Option Table). first_kept t (bytes_eq k (string_bytes key)) (saved_table table)) (of.shows k)
      ∙ sym (found_more k entries (saved_entry (key, table)));
  flat = λ k t h. flat_of (get_by_text was k) (bytes_eq k (string_bytes key)) table t (of.flat k) flat (sym (put k) ∙ h);
}
