-- A value of the table `env`: a text, or a table of three fields.
-- Cargo Reference, Configuration, `[env]`.
use Rattle.std.specs.Prelude.{ℕ, true, List, [], ◌∷◌, ◌++◌, codes, Option, Some, None}
use Rattle.toml.specs.Data.{Data, Members, get_member, as_str, as_table}
use Rattle.cc2_value.specs.Cells.{field, KeyPath, Cell, Text, Origin}
use Rattle.cc2_value.specs.Shown.{Field, leaf_at, entry_at}
use Rattle.cc2_value.specs.Values.{word_of}
use Rattle.cc2_value.specs.Ways.{Way, Flaw, ill_typed, read_at}
use Rattle.cc2_value.specs.Reading.{table_cells, fields_faults}
use Rattle.cc2_value.specs.Singles.{text_way, truth_way, text_value, truth_value}
use Rattle.cc2_leaf.specs.declared.env.EnvTable.{EnvTable}
use Rattle.cc2_leaf.specs.declared.env.EnvConfigValue.{EnvConfigValue}
use Rattle.cc2_leaf.specs.declared.env.EnvConfigValue.TheVariants as variable

abbrev pub env_fields : List (Field EnvTable)
env_fields =
    record { key = codes "value"; way = text_way; cells = λ e. text_value e.value }
    ∷ record { key = codes "force"; way = truth_way; cells = λ e. truth_value e.force }
    ∷ record { key = codes "relative"; way = truth_way; cells = λ e. truth_value e.relative }
    ∷ []

-- the value is required
abbrev pub missing_value : Option Data → List Flaw
missing_value None = (field (codes "value") ∷ [], ill_typed) ∷ []
missing_value (Some d) = []

abbrev pub env_cells : Option Origin → Option (List ℕ) → Option Members → KeyPath → Option Cell
env_cells origin (Some text) table p = read_at (λ t. Text (record { text = t; origin = origin } ∷ [])) (Some text) p
env_cells origin None table p = table_cells true env_fields origin table p

abbrev pub env_faults : Option (List ℕ) → Option Members → List Flaw
env_faults (Some text) table = []
env_faults None (Some ms) = fields_faults env_fields ms ++ missing_value (get_member (codes "value") ms)
env_faults None None = ([], ill_typed) ∷ []

-- a text, or a table with a value
abbrev pub env_way : Way
env_way = record { cells = λ origin d p. env_cells origin (as_str d) (as_table d) p; faults = λ d. env_faults (as_str d) (as_table d) }

abbrev pub env_at : EnvConfigValue → KeyPath → Option Cell
env_at (variable.Value v) p = leaf_at (λ x. Text (word_of x ∷ [])) v p
env_at (variable.Table value force relative) p = entry_at env_fields (record { value = Some value; force = force; relative = relative }) p
