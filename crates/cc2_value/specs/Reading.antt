-- How a table is read: field by field, each by its way.
use Rattle.std.specs.Prelude.{ℕ, Bool, true, false, List, [], ◌∷◌, ◌++◌, Option, Some, None, if◌then◌else◌}
use Rattle.std.specs.Str.{bytes_eq}
use Rattle.toml.specs.Data.{Members, get_member, as_table}
use Rattle.cc2_value.specs.Cells.{field, name, KeyPath, Cell, Origin}
use Rattle.cc2_value.specs.Ways.{Way, Flaw, ill_typed, cells_in, faults_in, below}
use Rattle.cc2_value.specs.Shown.{Field, place_at}

-- the cells below a field's key
abbrev pub member_cells : {A : Type 0} → List (Field A) → Option Origin → Members → List ℕ → KeyPath → Option Cell
member_cells [] origin ms k p = None
member_cells (f ∷ fs) origin ms k p = if bytes_eq f.key k then cells_in f.way origin (get_member f.key ms) p else member_cells fs origin ms k p

-- the cells of a table's members, below the cell of its place
abbrev pub members_cells : {A : Type 0} → Bool → List (Field A) → Option Origin → Members → KeyPath → Option Cell
members_cells member fs origin ms [] = place_at member
members_cells member fs origin ms (field k ∷ p) = member_cells fs origin ms k p
members_cells member fs origin ms (name k ∷ p) = None

-- of a table that is always there
abbrev pub fields_cells : {A : Type 0} → List (Field A) → Option Origin → Members → KeyPath → Option Cell
fields_cells fs origin ms p = members_cells false fs origin ms p

-- the faults of a table's members
abbrev pub fields_faults : {A : Type 0} → List (Field A) → Members → List Flaw
fields_faults [] ms = []
fields_faults (f ∷ fs) ms = below (field f.key) (faults_in f.way (get_member f.key ms)) ++ fields_faults fs ms

abbrev pub table_cells : {A : Type 0} → Bool → List (Field A) → Option Origin → Option Members → KeyPath → Option Cell
table_cells member fs origin None p = None
table_cells member fs origin (Some ms) p = members_cells member fs origin ms p

abbrev pub table_faults : {A : Type 0} → List (Field A) → Option Members → List Flaw
table_faults fs None = ([], ill_typed) ∷ []
table_faults fs (Some ms) = fields_faults fs ms

-- a table is read from a table alone
abbrev pub way_of_table : {A : Type 0} → Bool → List (Field A) → Way
way_of_table member fs = record { cells = λ origin d p. table_cells member fs origin (as_table d) p; faults = λ d. table_faults fs (as_table d) }

-- one that is always there
abbrev pub table_way : {A : Type 0} → List (Field A) → Way
table_way fs = way_of_table false fs

-- one that is a member of a map
abbrev pub entry_way : {A : Type 0} → List (Field A) → Way
entry_way fs = way_of_table true fs
