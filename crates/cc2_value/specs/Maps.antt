-- A table of names that the file picks: each member is read by its name, all by one way.
use Rattle.std.specs.Prelude.{ℕ, List, [], ◌∷◌, ◌++◌, Option, Some, None, String, string_bytes}
use Rattle.std.specs.BTreeMap.{is_at}
use Rattle.std.specs.Cmp.Lexicographic.{slice_cmp}
use Rattle.std.specs.Map.{lookup}
use Rattle.std.specs.Ordering.{nat_cmp}
use Rattle.std.specs.declared.alloc.Global.{Global}
use Rattle.toml.specs.Data.{Members, no_members, member, get_member, as_table}
use Rattle.cc2_value.specs.Cells.{field, name, KeyPath, Cell, Origin}
use Rattle.cc2_value.specs.Ways.{Way, Flaw, ill_typed, cells_in, below}

-- the value at the bytes k of a key, among entries
abbrev pub found : {X : Type 0} → List ℕ → List (String Global × X) → Option X
found k es = lookup (is_at (λ x. slice_cmp nat_cmp k (string_bytes x))) es

-- the cells of the members, each below its name
abbrev pub named_cells : Way → Option Origin → Members → KeyPath → Option Cell
named_cells w origin ms [] = None
named_cells w origin ms (field k ∷ p) = None
named_cells w origin ms (name k ∷ p) = cells_in w origin (get_member k ms) p

-- the faults of the members, each below its name
abbrev pub named_faults : Way → Members → List Flaw
named_faults w no_members = []
named_faults w (member k d ms) = below (name k) (w.faults d) ++ named_faults w ms

abbrev pub map_cells : Way → Option Origin → Option Members → KeyPath → Option Cell
map_cells w origin None p = None
map_cells w origin (Some ms) p = named_cells w origin ms p

abbrev pub map_faults : Way → Option Members → List Flaw
map_faults w None = ([], ill_typed) ∷ []
map_faults w (Some ms) = named_faults w ms

-- a table alone, whose members are read so
abbrev pub map_way : Way → Way
map_way w = record { cells = λ origin d p. map_cells w origin (as_table d) p; faults = λ d. map_faults w (as_table d) }
