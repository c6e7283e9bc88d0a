-- Where the table of a triple is below `target`. Cargo Reference, Configuration, `[target]`;
-- of a triple with dots a TOML key may be the whole, or keys may be its first pieces.
use Rattle.std.specs.Prelude.{◌≡◌, ◌<◌, ℕ, Bool, true, false, ◌&&◌, if◌then◌else◌, List, [], ◌∷◌, ◌++◌, map, find, length, Option, Some, None}
use Rattle.std.specs.Option.{MatchOption}
use Rattle.std.specs.List.{slice_split, join_with_byte}
use Rattle.std.specs.Borrow.{Bor}
use Rattle.cc2_base.specs.Paths.{is_dot}
use Rattle.cc2_value.specs.Cells.{name, KeyPath, Cell, Entry, Undecoded}
use Rattle.cc2_target_table.specs.declared.target.TargetConfig.{TargetConfig}
use Rattle.cc2_target_table.specs.Target.{target_at}

-- the pieces between the dots of a text
abbrev pub pieces : List ℕ → List (List ℕ)
pieces text = slice_split is_dot text

-- a way to read pieces as keys: some first pieces, and the rest as one key
abbrev pub Way : Type 0
Way = List (List ℕ) × List ℕ

-- all ways, the one with the fewest first pieces first
abbrev pub ways : List (List ℕ) → List Way
ways [] = []
ways (p ∷ ps) = ([], join_with_byte 46 (p ∷ ps)) ∷ map (λ w. (p ∷ w.0, w.1)) (ways ps)

abbrev pub path_of : Way → KeyPath
path_of w = map name (w.0 ++ w.1 ∷ [])

-- a table is there
abbrev pub is_table : Option Cell → Bool
is_table (Some Entry) = true
is_table _ = false

-- a table is there, or a value that doesn't read as one
abbrev pub is_present : Option Cell → Bool
is_present (Some Entry) = true
is_present (Some Undecoded) = true
is_present _ = false

-- a table is at each front of the path that isn't empty, and at the path
abbrev pub are_tables : (KeyPath → Option Cell) → List (List ℕ) → Bool
are_tables look [] = true
are_tables look (k ∷ ks) = is_table (look (name k ∷ [])) && are_tables (λ q. look (name k ∷ q)) ks

-- tables are above the way's path, and something is at it
abbrev pub is_hit : (KeyPath → Option Cell) → Way → Bool
is_hit look w = are_tables look w.0 && is_present (look (path_of w))

-- the path, where a table is at it
abbrev pub if_table : (KeyPath → Option Cell) → Option Way → Option KeyPath
if_table look None = None
if_table look (Some w) = if is_table (look (path_of w)) then Some (path_of w) else None

-- the first way of these that is hit, where a table is there
abbrev pub path_by : (KeyPath → Option Cell) → List Way → Option KeyPath
path_by look ws = if_table look (find (is_hit look) ws)

-- where the table of a triple is, in what shows these cells
abbrev pub table_path : (KeyPath → Option Cell) → List ℕ → Option KeyPath
table_path look triple = path_by look (ways (pieces triple))

-- what is found shows what is below the path; where there is no path nothing is found
abbrev pub IsFound : (KeyPath → Option Cell) → Option KeyPath → Option (Bor TargetConfig) → Type 0
IsFound look None None = Unit {0}
IsFound look (Some path) (Some table) = (p : KeyPath) → target_at table.now p ≡ look (path ++ p)
IsFound look _ _ = ⊥

-- the text is cut at its first dot, where it has one
abbrev pub IsCutAtDot : List ℕ → Option (Bor (List ℕ) × Bor (List ℕ)) → Type 0
IsCutAtDot text cut =
    MatchOption cut (pieces text ≡ text ∷ [])
    (λ x. (pieces text ≡ x.0.now ∷ pieces x.1.now) × (length x.1.now < length text))
