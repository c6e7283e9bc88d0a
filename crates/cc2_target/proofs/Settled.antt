-- What the sources of a target's settings give is what the cells say.
use Rattle.std.proofs.Common.{◌≡◌, ℕ, List, [], ◌∷◌, ◌++◌, map, flat_map, Option, Some, None, option_map}
use Rattle.std.proofs.Common.{option_and_then, codes, string_bytes, refl, sym, ap, ap₂, ◌∙◌, inl, inr, String, Global}
use Rattle.std.specs.Borrow.{Bor}
use Rattle.cc2_error.specs.Causes.{Refusal}
use Rattle.cc2_value.specs.Cells.{field, variable, word, KeyPath, Cell, Word}
use Rattle.cc2_value.specs.Shown.{option_at, single_at}
use Rattle.cc2_value.specs.Singles.{text_value}
use Rattle.cc2_value.specs.Values.{setting_of, words_of}
use Rattle.cc2_value.specs.declared.value.Value.{Value}
use Rattle.cc2_leaf.specs.Commands.{command_value, setting_of_command}
use Rattle.cc2_leaf.specs.Lists.{flags_at, flags_value, words_cell}
use Rattle.cc2_leaf.specs.TextWays.{TextWay, any_text_way, command_text_way, spaced_text_way}
use Rattle.cc2_leaf.specs.declared.flags.Flags.{Flags}
use Rattle.cc2_leaf.specs.declared.repr.Repr.{Repr}
use Rattle.cc2_leaf.specs.declared.repr.Repr.TheVariants as repr
use Rattle.cc2_env.specs.Reads.{IsFound as IsValue}
use Rattle.cc2_resolved.specs.Resolving.{texts_of, meant_as, settled}
use Rattle.cc2_resolved.specs.Rows.{made_of}
use Rattle.cc2_resolved.specs.declared.roots.Meant.TheVariants.{Program}
use Rattle.cc2_target_table.specs.Target.{target_at}
use Rattle.cc2_target_table.specs.declared.target.TargetConfig.{TargetConfig}
use Rattle.cc2_target.proofs.Chosen.{linker_shown, runner_shown}
use Rattle.cc2_target.specs.Finding.{IsFound, table_path}
use Rattle.cc2_target.specs.Given.{AreFrom, IsRefusedFrom}
use Rattle.cc2_base.specs.VariableNames.{target_variable}
use Rattle.cc2_target.specs.Settings.{Given, IsSettings, IsUnresolved, all_texts, if_cli_cell, linker_cell, look_in, or_build, runner_cell, site_for, table_cell, texts_in, true_cells, variable_cell}
use Rattle.cc2_resolved.specs.TargetConfigs.{TargetAnswer}
use Rattle.cc2_target.specs.Sources.{chosen, first_present, flag_texts, joined, linker_origin, runner_origin, table_in, trues_in}
use Rattle.cc2_target.specs.Variables.{AreRead, set_for}
use Rattle.cc2_target.specs.declared.sources.TargetSources.{TargetSources}

-- a variable's value shows its cell
value_cell : {A : Type 0} (look : A → KeyPath → Option Cell) (way : TextWay) (n : List ℕ) (v : Option (List ℕ)) (o : Option A)
    → IsValue look way (option_map (λ value. (n, value)) v) o
    → option_at look o [] ≡ option_and_then (λ value. way.cells (Some (variable n)) value []) v
value_cell look way n None None h = refl
value_cell look way n None (Some a) h = absurd h
value_cell look way n (Some value) None h = absurd h
value_cell look way n (Some value) (Some a) h = h.1 []

-- the table that is found shows what is at its path
found_cell : (look : KeyPath → Option Cell) (path : Option KeyPath) (table : Option (Bor TargetConfig)) (key : List ℕ)
    → IsFound look path table
    → option_at target_at (option_map (λ t. t.now) table) (field key ∷ []) ≡ option_and_then (λ p. look (p ++ field key ∷ [])) path
found_cell look None None key h = refl
found_cell look None (Some t) key h = absurd h
found_cell look (Some p) None key h = absurd h
found_cell look (Some p) (Some t) key h = h (field key ∷ [])

bare_words : (vs : List (Value (String Global))) → texts_of (words_of vs) ≡ map (λ v. string_bytes v.val) vs
bare_words [] = refl
bare_words (v ∷ vs) = ap (λ ts. string_bytes v.val ∷ ts) (bare_words vs)

texts_by : (r : Repr) (ws : List Word) → texts_in (Some (words_cell r ws)) ≡ texts_of ws
texts_by repr.Text ws = refl
texts_by repr.Array ws = refl

-- flags are the texts of their cell
texts_shown : (f : Option Flags) → texts_in (flags_value f []) ≡ flag_texts f
texts_shown None = refl
texts_shown (Some f) = texts_by f.repr (words_of f.flags.items) ∙ bare_words f.flags.items

in_table : (key : List ℕ) (of : TargetConfig → Option Flags)
    → ((t : TargetConfig) → target_at t (field key ∷ []) ≡ flags_value (of t) []) → (t : Option TargetConfig)
    → texts_in (option_at target_at t (field key ∷ [])) ≡ flag_texts (option_and_then of t)
in_table key of same None = refl
in_table key of same (Some t) = ap texts_in (same t) ∙ texts_shown (of t)

in_trues : (key : List ℕ) (of : TargetConfig → Option Flags)
    → ((t : TargetConfig) → target_at t (field key ∷ []) ≡ flags_value (of t) []) → (ts : List TargetConfig)
    → flat_map texts_in (true_cells ts key) ≡ flat_map (λ t. flag_texts (of t)) ts
in_trues key of same [] = refl
in_trues key of same (t ∷ ts) = ap₂ (λ x xs. x ++ xs) (ap texts_in (same t) ∙ texts_shown (of t)) (in_trues key of same ts)

module _ (g : Given) (triple : List ℕ) (s : TargetSources) (read : AreRead g.vars triple s.variables.now)
    (found : IsFound (look_in g) (table_path (look_in g) triple) s.table) where
  at_table : (key : List ℕ) → option_at target_at (table_in s) (field key ∷ []) ≡ table_cell (look_in g) triple key
  at_table key = found_cell (look_in g) (table_path (look_in g) triple) s.table key found

  set_cell : {A : Type 0} (look : A → KeyPath → Option Cell) (way : TextWay) (what : List ℕ) (o : Option A)
      → IsValue look way (set_for g.vars triple what) o → option_at look o [] ≡ variable_cell way g.vars triple what
  set_cell look way what o h =
      value_cell look way (target_variable triple what) (g.vars (target_variable triple what)) o h

  linker_is : text_value (chosen (λ t. t.linker) linker_origin s.variables.now.linker s) [] ≡ linker_cell g triple (trues_in s)
  linker_is =
      linker_shown s.variables.now.linker s []
      ∙ ap₂ (λ x y. first_present (if_cli_cell y ∷ (x ∷ (y ∷ true_cells (trues_in s) (codes "linker")))))
      (set_cell (single_at (setting_of (λ x. word (string_bytes x)))) any_text_way (codes "_LINKER") s.variables.now.linker read.0) (at_table (codes "linker"))

  runner_is : command_value (chosen (λ t. t.runner) runner_origin s.variables.now.runner s) [] ≡ runner_cell g triple (trues_in s)
  runner_is =
      runner_shown s.variables.now.runner s []
      ∙ ap₂ (λ x y. first_present (if_cli_cell y ∷ (x ∷ (y ∷ true_cells (trues_in s) (codes "runner")))))
      (set_cell (single_at setting_of_command) command_text_way (codes "_RUNNER") s.variables.now.runner read.1) (at_table (codes "runner"))

  flags_are : (what key : List ℕ) (of : TargetConfig → Option Flags) (v : Option Flags)
      → ((t : TargetConfig) → target_at t (field key ∷ []) ≡ flags_value (of t) [])
      → texts_in (flags_value v []) ≡ texts_in (variable_cell spaced_text_way g.vars triple what)
      → joined of v s ≡ all_texts g triple (trues_in s) what key
  flags_are what key of v same set =
      ap₂ (λ x xs. x ++ xs) (sym (in_table key of same (table_in s)) ∙ ap texts_in (at_table key))
      (ap₂ (λ x xs. x ++ xs) (sym (texts_shown v) ∙ set) (sym (in_trues key of same (trues_in s))))

  rustflags_are : joined (λ t. t.rustflags) s.variables.now.rustflags s
      ≡ all_texts g triple (trues_in s) (codes "_RUSTFLAGS") (codes "rustflags")
  rustflags_are =
      flags_are (codes "_RUSTFLAGS") (codes "rustflags") (λ t. t.rustflags) s.variables.now.rustflags (λ t. refl)
      (ap texts_in (set_cell flags_at spaced_text_way (codes "_RUSTFLAGS") s.variables.now.rustflags read.2))

  rustdocflags_are : joined (λ t. t.rustdocflags) s.variables.now.rustdocflags s
      ≡ all_texts g triple (trues_in s) (codes "_RUSTDOCFLAGS") (codes "rustdocflags")
  rustdocflags_are =
      flags_are (codes "_RUSTDOCFLAGS") (codes "rustdocflags") (λ t. t.rustdocflags) s.variables.now.rustdocflags (λ t. refl)
      (ap texts_in (set_cell flags_at spaced_text_way (codes "_RUSTDOCFLAGS") s.variables.now.rustdocflags read.3))

  -- the settings by the sources are those by the cells
  pub settings_are : (a : TargetAnswer) → AreFrom g s a → IsSettings g triple (trues_in s) a
  settings_are a from = record {
    linker = ap (made_of (meant_as Program (site_for g.directory))) (sym linker_is) ∙ from.linker;
    runner = ap (made_of (settled (site_for g.directory))) (sym runner_is) ∙ from.runner;
    rustflags = from.rustflags ∙ ap (λ flags. or_build g.flags_overridden flags g.build_flags) rustflags_are;
    rustdocflags = from.rustdocflags ∙ ap (λ flags. or_build g.doc_flags_overridden flags g.build_doc_flags) rustdocflags_are;
  }

  -- what is refused by the cells is by the sources, and the other way
  pub refused_from : (refusal : Refusal) → IsUnresolved g triple (trues_in s) refusal → IsRefusedFrom g s refusal
  refused_from refusal (inl h) = inl (ap (made_of (meant_as Program (site_for g.directory))) linker_is ∙ h)
  refused_from refusal (inr h) = inr (ap (made_of (settled (site_for g.directory))) runner_is ∙ h)

  pub refused_by : (refusal : Refusal) → IsRefusedFrom g s refusal → IsUnresolved g triple (trues_in s) refusal
  refused_by refusal (inl h) = inl (ap (made_of (meant_as Program (site_for g.directory))) (sym linker_is) ∙ h)
  refused_by refusal (inr h) = inr (ap (made_of (settled (site_for g.directory))) (sym runner_is) ∙ h)
