-- A target's settings, by where they come from. Cargo Reference, Configuration, `[target]`.
use Rattle.std.specs.Prelude.{ℕ, Bool, true, false, List, [], ◌∷◌, ◌++◌, map, flat_map, Option, Some, None, option_map, option_and_then, String, string_bytes, if◌then◌else◌}
use Rattle.std.specs.declared.alloc.Global.{Global}
use Rattle.cc2_value.specs.Cells.{Origin, command_line}
use Rattle.cc2_value.specs.Values.{origin_of}
use Rattle.cc2_value.specs.declared.value.Value.{Value}
use Rattle.cc2_leaf.specs.declared.flags.Flags.{Flags}
use Rattle.cc2_leaf.specs.declared.path_and_args.PathAndArgs.{PathAndArgs}
use Rattle.cc2_target_table.specs.declared.target.TargetConfig.{TargetConfig}
use Rattle.cc2_target.specs.declared.sources.TargetSources.{TargetSources}

-- the first of them that is there
abbrev pub first_present : {A : Type 0} → List (Option A) → Option A
first_present [] = None
first_present (None ∷ os) = first_present os
first_present (Some a ∷ os) = Some a

-- the table of the triple
abbrev pub table_in : TargetSources → Option TargetConfig
table_in s = option_map (λ t. t.now) s.table

-- a field of the triple's table
abbrev pub of_table : {A : Type 0} → (TargetConfig → Option A) → TargetSources → Option A
of_table field s = option_and_then field (table_in s)

-- the true tables, in order
abbrev pub trues_in : TargetSources → List TargetConfig
trues_in s = map (λ t. t.now) s.true_tables.now

-- it was set on the command line
abbrev pub is_command_line : Option Origin → Bool
is_command_line (Some (command_line path)) = true
is_command_line _ = false

-- what there is, where it was set on the command line
abbrev pub if_cli : {A : Type 0} → (A → Option Origin) → Option A → Option A
if_cli origin None = None
if_cli origin (Some a) = if is_command_line (origin a) then Some a else None

-- where a linker was set
abbrev pub linker_origin : Value (String Global) → Option Origin
linker_origin linker = option_map origin_of linker.definition

-- where a runner was set: where its program was
abbrev pub runner_origin : PathAndArgs → Option Origin
runner_origin runner = option_map origin_of runner.path.value.definition

-- the first that is there: that of the triple's table, where the command line set it; the variable's; that of
-- the triple's table; those of the true tables
abbrev pub chosen : {A : Type 0} → (TargetConfig → Option A) → (A → Option Origin) → Option A → TargetSources → Option A
chosen field origin variable s =
    first_present (if_cli origin (of_table field s) ∷ (variable ∷ (of_table field s ∷ map field (trues_in s))))

-- flags, as texts
abbrev pub flag_texts : Option Flags → List (List ℕ)
flag_texts None = []
flag_texts (Some f) = map (λ flag. string_bytes flag.val) f.flags.items

-- all as one list: those of the triple's table, then the variable's, then those of each true table
abbrev pub joined : (TargetConfig → Option Flags) → Option Flags → TargetSources → List (List ℕ)
joined field variable s =
    flag_texts (of_table field s) ++ (flag_texts variable ++ flat_map (λ t. flag_texts (field t)) (trues_in s))
