-- A target's settings: the linker and the runner by the first place that has one, flags from all places
-- as one list. Cargo Reference, Configuration, `[target]`, "Hierarchical structure" and `build.rustflags`.
use Rattle.std.specs.Prelude.{◌≡◌, ◌⊎◌, ℕ, Bool, true, false, List, [], ◌∷◌, ◌++◌, map, flat_map, codes, Option, Some, None, option_and_then, Ok, Err, String, if◌then◌else◌}
use Rattle.std.specs.BTreeMap.{BTreeMap}
use Rattle.std.specs.declared.alloc.Global.{Global}
use Rattle.cc2_error.specs.Causes.{Refusal}
use Rattle.cc2_value.specs.Cells.{field, variable, KeyPath, Cell, Single, Text, Items}
use Rattle.cc2_value.specs.Shown.{map_at}
use Rattle.cc2_leaf.specs.TextWays.{TextWay, any_text_way, command_text_way, spaced_text_way}
use Rattle.cc2_env.specs.Kept.{Variables}
use Rattle.cc2_target_table.specs.Target.{target_at}
use Rattle.cc2_target_table.specs.declared.target.TargetConfig.{TargetConfig}
use Rattle.cc2_resolved.specs.Answers.{Answer, texts}
use Rattle.cc2_resolved.specs.Resolving.{meant_as, settled, texts_of}
use Rattle.cc2_resolved.specs.Rows.{made_of}
use Rattle.cc2_resolved.specs.Sites.{Site}
use Rattle.cc2_resolved.specs.declared.roots.Meant.TheVariants.{Program}
use Rattle.cc2_target.specs.Finding.{table_path}
use Rattle.cc2_base.specs.VariableNames.{target_variable}
use Rattle.cc2_resolved.specs.TargetConfigs.{TargetAnswer}
use Rattle.cc2_target.specs.Sources.{first_present, is_command_line}

-- what the settings of targets are made of, beside what rustc prints
pub record Given : Type 0 where
  -- the tables below `target`, by their keys
  pub tables : BTreeMap (String Global) TargetConfig
  pub vars : Variables
  -- to what relative values of variables are joined
  pub directory : List ℕ
  -- the flags of the table `build`
  pub build_flags : Option Answer
  pub build_doc_flags : Option Answer
  -- whether variables override the flags of targets
  pub flags_overridden : Bool
  pub doc_flags_overridden : Bool

abbrev pub look_in : Given → KeyPath → Option Cell
look_in g = map_at target_at g.tables

-- no setting of a target is an alias
abbrev pub site_for : List ℕ → Site
site_for directory = record { directory = directory; is_alias = λ n. false }

-- what the variable that sets this of a triple gives, where it is set
abbrev pub variable_cell : TextWay → Variables → List ℕ → List ℕ → Option Cell
variable_cell way vars triple what =
    option_and_then (λ value. way.cells (Some (variable (target_variable triple what))) value [])
    (vars (target_variable triple what))

-- what the triple's table has at a field, where there is such a table
abbrev pub table_cell : (KeyPath → Option Cell) → List ℕ → List ℕ → Option Cell
table_cell look triple key = option_and_then (λ path. look (path ++ field key ∷ [])) (table_path look triple)

-- a single value's cell, where it was set on the command line
abbrev pub if_cli_cell : Option Cell → Option Cell
if_cli_cell (Some (Single s)) = if is_command_line s.origin then Some (Single s) else None
if_cli_cell _ = None

-- what the true tables have at a field
abbrev pub true_cells : List TargetConfig → List ℕ → List (Option Cell)
true_cells trues key = map (λ t. target_at t (field key ∷ [])) trues

-- the texts of a list
abbrev pub texts_in : Option Cell → List (List ℕ)
texts_in (Some (Text ws)) = texts_of ws
texts_in (Some (Items ws)) = texts_of ws
texts_in _ = []

-- a list; where it is empty, and where variables override it, the flags of `build`
abbrev pub or_build : Bool → List (List ℕ) → Option Answer → Option Answer
or_build true flags build = build
or_build false [] build = build
or_build false (flag ∷ flags) build = Some (texts (flag ∷ flags))

module _ (g : Given) (triple : List ℕ) (trues : List TargetConfig) where
  -- the first of these that is there: what the triple's table has, where the command line set it; what the
  -- variable gives; what the triple's table has; what the true tables have
  abbrev pub first_cell : TextWay → List ℕ → List ℕ → Option Cell
  first_cell way what key =
      first_present (if_cli_cell (table_cell (look_in g) triple key)
      ∷ (variable_cell way g.vars triple what ∷ (table_cell (look_in g) triple key ∷ true_cells trues key)))

  -- the texts of the triple's table, then those of the variable, then those of each true table
  abbrev pub all_texts : List ℕ → List ℕ → List (List ℕ)
  all_texts what key =
      flat_map texts_in (table_cell (look_in g) triple key
      ∷ (variable_cell spaced_text_way g.vars triple what ∷ true_cells trues key))

  abbrev pub linker_cell : Option Cell
  linker_cell = first_cell any_text_way (codes "_LINKER") (codes "linker")

  abbrev pub runner_cell : Option Cell
  runner_cell = first_cell command_text_way (codes "_RUNNER") (codes "runner")

  -- the settings, with the linker and the runner resolved as programs
  pub record IsSettings (a : TargetAnswer) : Type 0 where
    pub linker : made_of (meant_as Program (site_for g.directory)) linker_cell ≡ Ok a.linker
    pub runner : made_of (settled (site_for g.directory)) runner_cell ≡ Ok a.runner
    pub rustflags : a.rustflags ≡ or_build g.flags_overridden (all_texts (codes "_RUSTFLAGS") (codes "rustflags")) g.build_flags
    pub rustdocflags : a.rustdocflags
        ≡ or_build g.doc_flags_overridden (all_texts (codes "_RUSTDOCFLAGS") (codes "rustdocflags")) g.build_doc_flags

  -- the linker or the runner has no root
  abbrev pub IsUnresolved : Refusal → Type 0
  IsUnresolved refusal =
      (made_of (meant_as Program (site_for g.directory)) linker_cell ≡ Err refusal)
      ⊎ (made_of (settled (site_for g.directory)) runner_cell ≡ Err refusal)
