-- The settings of a target, and the causes for which they are refused, are those of any tables that show the same.
use Rattle.std.proofs.Common.{◌≡◌, ℕ, List, [], ◌∷◌, map, codes, flat_map, Option, Result, Ok, Err, refl, sym, ap, ◌∙◌, inl, inr}
use Rattle.cc2_cfg.specs.Meaning.{Atom}
use Rattle.cc2_error.specs.Causes.{Refusal}
use Rattle.cc2_leaf.specs.TextWays.{TextWay, any_text_way, command_text_way, spaced_text_way}
use Rattle.cc2_value.specs.Cells.{Cell}
use Rattle.cc2_value.specs.Shown.{map_at}
use Rattle.cc2_target_table.specs.Target.{target_at}
use Rattle.cc2_target_table.specs.declared.target.TargetConfig.{TargetConfig}
use Rattle.cc2_resolved.specs.Resolving.{meant_as, settled}
use Rattle.cc2_resolved.specs.Rows.{made_of}
use Rattle.cc2_resolved.specs.declared.roots.Meant.TheVariants.{Program}
use Rattle.cc2_rustc.specs.Asking.{entries_by_text}
use Rattle.cc2_target.specs.Asked.{AreTrue, IsAnswer, IsCause}
use Rattle.cc2_target.specs.Settings.{
  Given,
  IsSettings,
  IsUnresolved,
  all_texts,
  first_cell,
  if_cli_cell,
  look_in,
  or_build,
  site_for,
  table_cell,
  texts_in,
  true_cells,
  variable_cell,
}
use Rattle.cc2_resolved.specs.TargetConfigs.{TargetAnswer}
use Rattle.cc2_target.specs.Sources.{first_present}
use Rattle.cc2_state.specs.Shown.{saved_field, saved_table}
use Rattle.cc2_state.specs.State.{Table}
use Rattle.cc2_state.specs.Views.{Tables}
use Rattle.cc2_reply.proofs.SameKeys.{shown_entries, some_asks, some_refused, true_same}

abbrev pub with_tables : Given → Tables → Given
with_tables g tables = record g { tables = tables }

-- what tables have at a field
cells_shown : (xs : List TargetConfig) (key : List ℕ) → true_cells xs key ≡ map (λ (t : Table). saved_field t key []) (map saved_table xs)
cells_shown [] key = refl
cells_shown (x ∷ xs) key = ap (λ (cs : List (Option Cell)). saved_field (saved_table x) key [] ∷ cs) (cells_shown xs key)

cells_same : (xs ys : List TargetConfig) (key : List ℕ) → map saved_table xs ≡ map saved_table ys → true_cells xs key ≡ true_cells ys key
cells_same xs ys key same = cells_shown xs key ∙ ap (map (λ (t : Table). saved_field t key [])) same ∙ sym (cells_shown ys key)

module _ (g : Given) (n : Tables) (looks : look_in g ≡ map_at target_at n) (triple : List ℕ) (xs ys : List TargetConfig) (same : map saved_table xs ≡ map saved_table ys) where
  first_same : (way : TextWay) (what key : List ℕ) → first_cell g triple xs way what key ≡ first_cell (with_tables g n) triple ys way what key
  first_same way what key = λ i.
      first_present (if_cli_cell (table_cell (looks i) triple key)
      ∷ (variable_cell way g.vars triple what ∷ (table_cell (looks i) triple key ∷ cells_same xs ys key same i)))

  texts_same : (what key : List ℕ) → all_texts g triple xs what key ≡ all_texts (with_tables g n) triple ys what key
  texts_same what key = λ i.
      flat_map texts_in (table_cell (looks i) triple key
      ∷ (variable_cell spaced_text_way g.vars triple what ∷ cells_same xs ys key same i))

  linker_made : made_of (meant_as Program (site_for g.directory)) (first_cell (with_tables g n) triple ys any_text_way (codes "_LINKER") (codes "linker"))
      ≡ made_of (meant_as Program (site_for g.directory)) (first_cell g triple xs any_text_way (codes "_LINKER") (codes "linker"))
  linker_made = ap (made_of (meant_as Program (site_for g.directory))) (sym (first_same any_text_way (codes "_LINKER") (codes "linker")))

  runner_made : made_of (settled (site_for g.directory)) (first_cell (with_tables g n) triple ys command_text_way (codes "_RUNNER") (codes "runner"))
      ≡ made_of (settled (site_for g.directory)) (first_cell g triple xs command_text_way (codes "_RUNNER") (codes "runner"))
  runner_made = ap (made_of (settled (site_for g.directory))) (sym (first_same command_text_way (codes "_RUNNER") (codes "runner")))

  settings_same : (a : TargetAnswer) → IsSettings g triple xs a → IsSettings (with_tables g n) triple ys a
  settings_same a is = record {
    linker = linker_made ∙ is.linker;
    runner = runner_made ∙ is.runner;
    rustflags = is.rustflags ∙ ap (λ ts. or_build g.flags_overridden ts g.build_flags) (texts_same (codes "_RUSTFLAGS") (codes "rustflags"));
    rustdocflags = is.rustdocflags ∙ ap (λ ts. or_build g.doc_flags_overridden ts g.build_doc_flags) (texts_same (codes "_RUSTDOCFLAGS") (codes "rustdocflags"));
  }

  unresolved_same : (refusal : Refusal) → IsUnresolved g triple xs refusal → IsUnresolved (with_tables g n) triple ys refusal
  unresolved_same refusal (inl linker) = inl (linker_made ∙ linker)
  unresolved_same refusal (inr runner) = inr (runner_made ∙ runner)

module _ (g : Given) (n : Tables) (looks : look_in g ≡ map_at target_at n)
    (shows : shown_entries saved_table (entries_by_text g.tables) ≡ shown_entries saved_table (entries_by_text n)) where
  true_tables : (said : Result (List Atom) Refusal) (xs : List TargetConfig) → AreTrue (entries_by_text g.tables) said xs
      → (ys : List TargetConfig) × AreTrue (entries_by_text n) said ys × (map saved_table xs ≡ map saved_table ys)
  true_tables (Ok atoms) xs are = true_same saved_table atoms (entries_by_text g.tables) (entries_by_text n) shows xs are
  true_tables (Err refusal) xs (none, empty) =
      ([], (λ asks. none (some_asks saved_table (entries_by_text n) (entries_by_text g.tables) (sym shows) asks), refl), ap (map saved_table) empty)

  pub answer_same : (triple : List ℕ) (said : Result (List Atom) Refusal) (a : TargetAnswer) → IsAnswer g triple said a
      → IsAnswer (with_tables g n) triple said a
  answer_same triple said a (xs, are, is) =
      let (ys, also, same) = true_tables said xs are in (ys, also, settings_same g n looks triple xs ys same a is)

  pub cause_same : (triple : List ℕ) (said : Result (List Atom) Refusal) (refusal : Refusal) → IsCause g triple said refusal
      → IsCause (with_tables g n) triple said refusal
  cause_same triple said refusal (inl none) = inl none
  cause_same triple said refusal (inr (inl key)) =
      inr (inl (some_refused saved_table (entries_by_text g.tables) (entries_by_text n) refusal shows key))
  cause_same triple said refusal (inr (inr (inl variable))) = inr (inr (inl variable))
  cause_same triple said refusal (inr (inr (inr (inl (asks, unknown))))) =
      inr (inr (inr (inl (some_asks saved_table (entries_by_text g.tables) (entries_by_text n) shows asks, unknown))))
  cause_same triple said refusal (inr (inr (inr (inr (xs, are, is))))) =
      let (ys, also, same) = true_tables said xs are in inr (inr (inr (inr (ys, also, unresolved_same g n looks triple xs ys same refusal is))))
