-- A target table, which holds tables of its own form below its other keys: the cells that it shows.
-- Cargo Reference, Configuration, `[target]`.
use Rattle.std.specs.Prelude.{ℕ, List, [], ◌∷◌, codes, Option, Some, None, option_map}
use Rattle.std.specs.BTreeMap.{get_by_text}
use Rattle.cc2_value.specs.Cells.{field, name, KeyPath, Cell, Entry, Undecoded}
use Rattle.cc2_value.specs.Shown.{Field, field_at}
use Rattle.cc2_value.specs.Singles.{text_way, text_value}
use Rattle.cc2_leaf.specs.Commands.{command_way, command_value}
use Rattle.cc2_leaf.specs.Lists.{list_way, flags_value}
use Rattle.cc2_target_table.specs.declared.target.TargetConfig.{TargetConfig}
use Rattle.cc2_target_table.specs.declared.target.Node.{Node, out-Node}
use Rattle.cc2_target_table.specs.declared.target.Node.TheOpen.{Node-F}
use Rattle.cc2_target_table.specs.declared.target.Nested.{Nested}
use Rattle.cc2_target_table.specs.declared.target.Nested.TheVariants as nested

-- its own fields
abbrev pub target_fields : List (Field TargetConfig)
target_fields =
    record { key = codes "linker"; way = text_way; cells = λ t. text_value t.linker }
    ∷ record { key = codes "runner"; way = command_way; cells = λ t. command_value t.runner }
    ∷ record { key = codes "rustflags"; way = list_way; cells = λ t. flags_value t.rustflags }
    ∷ record { key = codes "rustdocflags"; way = list_way; cells = λ t. flags_value t.rustdocflags }
    ∷ []

-- what doesn't decode has a mark, and nothing below it
abbrev pub mark_at : KeyPath → Option Cell
mark_at [] = Some Undecoded
mark_at (k ∷ p) = None

-- what is below a name: a table, or the mark of a value that doesn't decode
abbrev pub in_node : KeyPath → (TargetConfig → Option Cell) → Node-F Node TargetConfig → Option Cell
in_node p look (Node-F.Table t) = look t.value
in_node p look Node-F.Undecoded = mark_at p

abbrev pub in_found : KeyPath → (TargetConfig → Option Cell) → Option Node → Option Cell
in_found p look None = None
in_found p look (Some n) = in_node p look (out-Node n)

-- the table is an entry, has its fields' cells below their keys, and those of each nested table below its name
abbrev pub below_target : KeyPath → TargetConfig → Option Cell
below_target [] t = Some Entry
below_target (field k ∷ p) t = field_at target_fields t k p
below_target (name k ∷ p) t = in_found p (below_target p) (get_by_text t.nested k)

abbrev pub target_at : TargetConfig → KeyPath → Option Cell
target_at t p = below_target p t

abbrev pub node_at : Node → KeyPath → Option Cell
node_at n p = in_node p (below_target p) (out-Node n)

-- a table with nothing in it
abbrev pub entry_alone : KeyPath → Option Cell
entry_alone [] = Some Entry
entry_alone (k ∷ p) = None

-- what is kept at a name: nothing, or a table, which a mark hasn't
abbrev pub table_of : Node-F Node TargetConfig → Option TargetConfig
table_of (Node-F.Table t) = Some t.value
table_of Node-F.Undecoded = None

abbrev pub kept_table : Node → Option TargetConfig
kept_table n = table_of (out-Node n)

abbrev pub kept_at : TargetConfig → List ℕ → Option (Option TargetConfig)
kept_at t k = option_map kept_table (get_by_text t.nested k)

-- what is lent of it
abbrev pub lent_table : Nested → Option TargetConfig
lent_table (nested.Table t) = Some t.now
lent_table nested.Undecoded = None

-- the cells of what is lent
abbrev pub lent_at : Nested → KeyPath → Option Cell
lent_at (nested.Table t) p = target_at t.now p
lent_at nested.Undecoded p = mark_at p
