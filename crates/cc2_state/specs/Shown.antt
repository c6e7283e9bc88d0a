-- What the tables below `target` show, and what a state shows of them.
use Rattle.std.specs.Prelude.{◌≡◌, ℕ, List, [], ◌∷◌, All, codes, Option, Some, None, string_bytes, String, if◌then◌else◌}
use Rattle.std.specs.BTreeMap.{BTreeMap, get_by_text}
use Rattle.std.specs.Str.{bytes_eq}
use Rattle.std.specs.declared.alloc.Global.{Global}
use Rattle.cc2_value.specs.Cells.{field, name, KeyPath, Cell, Entry}
use Rattle.cc2_value.specs.Singles.{text_value}
use Rattle.cc2_leaf.specs.Commands.{command_value}
use Rattle.cc2_leaf.specs.Lists.{flags_value}
use Rattle.cc2_target_table.specs.declared.target.TargetConfig.{TargetConfig}
use Rattle.cc2_state.specs.State.{LoadState, Table}

-- the cells of a table's fields
abbrev pub saved_table : TargetConfig → Table
saved_table t = record {
  linker = text_value t.linker [];
  runner = command_value t.runner [];
  rustflags = flags_value t.rustflags [];
  rustdocflags = flags_value t.rustdocflags [];
}

abbrev pub saved_entry : String Global × TargetConfig → List ℕ × Table
saved_entry e = (string_bytes e.0, saved_table e.1)

-- a table holds no table and no mark
abbrev pub IsFlatTable : TargetConfig → Type 0
IsFlatTable t = t.nested.entries ≡ []

-- no table of a map holds one
abbrev pub AreFlatTables : BTreeMap (String Global) TargetConfig → Type 0
AreFlatTables tables = All (λ e. IsFlatTable e.1) tables.entries

-- the same of the tables that are found at keys
abbrev pub AreFlatAt : BTreeMap (String Global) TargetConfig → Type 0
AreFlatAt tables = (k : List ℕ) (t : TargetConfig) → get_by_text tables k ≡ Some t → IsFlatTable t

-- a cell at the value itself
abbrev pub cell_alone : Option Cell → KeyPath → Option Cell
cell_alone c [] = c
cell_alone c (k ∷ p) = None

abbrev pub saved_field : Table → List ℕ → KeyPath → Option Cell
saved_field t k p =
    if bytes_eq (codes "linker") k then cell_alone t.linker p
    else (if bytes_eq (codes "runner") k then cell_alone t.runner p
    else (if bytes_eq (codes "rustflags") k then cell_alone t.rustflags p
    else (if bytes_eq (codes "rustdocflags") k then cell_alone t.rustdocflags p else None)))

-- the cells of a table, which is one itself
abbrev pub saved_cells : Option Table → KeyPath → Option Cell
saved_cells None p = None
saved_cells (Some t) [] = Some Entry
saved_cells (Some t) (field k ∷ p) = saved_field t k p
saved_cells (Some t) (name k ∷ p) = None

-- the table at a key: the first that has it
abbrev pub table_found : List (List ℕ × Table) → List ℕ → Option Table
table_found [] k = None
table_found (e ∷ es) k = if bytes_eq k e.0 then Some e.1 else table_found es k

-- the cells of the tables of a state
abbrev pub tables_cells : LoadState → KeyPath → Option Cell
tables_cells s [] = None
tables_cells s (field k ∷ p) = None
tables_cells s (name k ∷ p) = saved_cells (table_found s.tables k) p
