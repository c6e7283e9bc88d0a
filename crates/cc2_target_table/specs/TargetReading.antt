-- How a target table is read: a fault of its own fields refuses it, and below each other key a value
-- that doesn't read as such a table is kept as a mark.
-- Cargo Reference, Configuration, `[target]`.
use Rattle.std.specs.Prelude.{◌≡◌, ℕ, List, [], ◌∷◌, Bool, false, Option, Some, None, String, if◌then◌else◌}
use Rattle.std.specs.BTreeMap.{BTreeMap, get_by_text}
use Rattle.std.specs.List.{list_any}
use Rattle.std.specs.Str.{bytes_eq}
use Rattle.std.specs.declared.alloc.Global.{Global}
use Rattle.toml.specs.declared.value.Value.{Value}
use Rattle.toml.specs.Data.{Data, Members, get_member, as_table}
use Rattle.cc2_value.specs.Cells.{field, name, KeyPath, Cell, Entry, Origin}
use Rattle.cc2_value.specs.Shown.{option_at}
use Rattle.cc2_value.specs.Ways.{Way, Flaw}
use Rattle.cc2_value.specs.Reading.{table_cells, table_faults}
use Rattle.cc2_target_table.specs.declared.target.Node.{Node}
use Rattle.cc2_target_table.specs.Target.{target_fields, mark_at, node_at}

-- whether the key is that of one of the fields
abbrev pub is_field : List ℕ → Bool
is_field k = list_any (λ f. bytes_eq k f.key) target_fields

-- the faults of the table's own fields; those of nested ones are none of it
abbrev pub own_faults : Option Members → List Flaw
own_faults ms = table_faults target_fields ms

-- there is a fault
abbrev pub IsFaulty : List Flaw → Type 0
IsFaulty [] = ⊥
IsFaulty (f ∷ fs) = Unit {0}

-- the one where there is no fault, else the other
abbrev pub if_sound : {X : Type 0} → List Flaw → X → X → X
if_sound [] sound faulty = sound
if_sound (f ∷ fs) sound faulty = faulty

-- the cell of a value below another key: that of its table, or the mark's
abbrev pub value_cell : KeyPath → (Option Members → Option Cell) → Data → Option Cell
value_cell p look d = if_sound (own_faults (as_table d)) (look (as_table d)) (mark_at p)

abbrev pub member_cell : KeyPath → (Option Members → Option Cell) → Option Data → Option Cell
member_cell p look None = None
member_cell p look (Some d) = value_cell p look d

-- the same below any key: a field's is no name
abbrev pub named_cell : List ℕ → KeyPath → (Option Members → Option Cell) → Option Data → Option Cell
named_cell k p look d = if is_field k then None else member_cell p look d

abbrev pub member_in : List ℕ → Option Members → Option Data
member_in k None = None
member_in k (Some ms) = get_member k ms

-- the cell at a key path of a table with these members
abbrev pub read_target : KeyPath → Option Origin → Option Members → Option Cell
read_target [] origin ms = Some Entry
read_target (field k ∷ p) origin ms = table_cells false target_fields origin ms (field k ∷ p)
read_target (name k ∷ p) origin ms = named_cell k p (read_target p origin) (member_in k ms)

abbrev pub target_way : Way
target_way = record { cells = λ origin d p. read_target p origin (as_table d); faults = λ d. own_faults (as_table d) }

-- what is kept of a value shows what the value has
abbrev pub IsKept : Option Origin → Data → Node → Type 0
IsKept origin d n = (p : KeyPath) → node_at n p ≡ value_cell p (read_target p origin) d

-- the map shows what these members have below names
abbrev pub IsKeptOf : Option Origin → Members → BTreeMap (String Global) Node → Type 0
IsKeptOf origin ms nodes = (k : List ℕ) (p : KeyPath) → named_cell k p (read_target p origin) (get_member k ms) ≡ option_at node_at (get_by_text nodes k) p

-- the table own has the values of the fields of the other, and nothing else
abbrev pub AreOwn : BTreeMap (String Global) Value → BTreeMap (String Global) Value → Type 0
AreOwn table own = (k : List ℕ) → get_by_text own k ≡ if is_field k then get_by_text table k else None
