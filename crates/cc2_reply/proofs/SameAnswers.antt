-- What items come to by a configuration is fixed by what queries read of it.
use Rattle.std.proofs.Common.{◌≡◌, ℕ, Bool, false, ◌||◌, List, [], ◌∷◌, ◌++◌, map, codes, Option, Some, None, option_map, Result, Ok, Err, String, Global, string_bytes, refl, sym, ap, subst, ◌∙◌, inl, inr}
use Rattle.std.specs.List.{list_any}
use Rattle.std.proofs.lemmas.Bool.{or_parts}
use Rattle.cc2_error.specs.Causes.{Refusal}
use Rattle.cc2_error.specs.Commands.{Command, command_of}
use Rattle.cc2_base.specs.Told.{Tree}
use Rattle.cc2_base.specs.ToldPrograms.{Answers}
use Rattle.cc2_value.specs.Cells.{KeyPath}
use Rattle.cc2_env.specs.Options.{variables_of}
use Rattle.cc2_target_table.specs.declared.target.TargetConfig.{TargetConfig}
use Rattle.cc2_resolved.specs.Answers.{texts, flags_answer}
use Rattle.cc2_resolved.specs.ShownFlags.{flag_texts}
use Rattle.cc2_resolved.specs.Targets.{Target, target_of}
use Rattle.cc2_resolved.specs.declared.flags.Flags.{Flags}
use Rattle.cc2_rustc.specs.Asking.{entries_by_text}
use Rattle.cc2_rustc.specs.AskedVersions.{host_said, rustc_version_said, cargo_version_said}
use Rattle.cc2_rustc.specs.Asked.{asked_for}
use Rattle.cc2_rustc.specs.CfgSets.{set_said}
use Rattle.cc2_rustc.specs.Rustc.{is_there, rustc_command}
use Rattle.cc2_target.specs.Settings.{Given}
use Rattle.cc2_resolved.specs.TargetConfigs.{TargetAnswer}
use Rattle.cargo_config2.specs.Config.{targets_in}
use Rattle.cargo_config2.specs.Kept.{asked_by, given_of}
use Rattle.cargo_config2.specs.RustcKept.{rustc_command_of, rustc_settings}
use Rattle.cargo_config2.specs.Targets.{IsTarget, IsTargetCause}
use Rattle.cargo_config2.specs.declared.config.Config.{Config}
use Rattle.cc2_cli.specs.CommandLines.{rustc_lines, host_line}
use Rattle.cc2_answers.specs.Items.{Item, build, rustc, host, target, cfg, rustc_version, cargo_version, is_build}
use Rattle.cc2_answers.specs.Outcomes.{AreAnswered, AreOutcome, IsOutcomeOf, cfg_outcome, in_lines}
use Rattle.cc2_answers.specs.TargetRuns.{IsOutcomeFor}
use Rattle.cc2_answers.specs.VersionLines.{rustc_version_lines, cargo_version_lines}
use Rattle.cc2_state.specs.Shown.{saved_entry, saved_table}
use Rattle.cc2_state.specs.State.{Table}
use Rattle.cc2_reply.proofs.SameKeys.{shown_entries}
use Rattle.cc2_reply.proofs.SameSettings.{answer_same, cause_same, with_tables}

-- two configurations have the same of what queries read
pub record ReadsAlike (c d : Config) : Type 0 where
  pub tables : map saved_entry c.loaded.target.entries ≡ map saved_entry d.loaded.target.entries
  pub cells : (p : KeyPath) → targets_in c p ≡ targets_in d p
  pub flags : c.loaded.flags_overridden ≡ d.loaded.flags_overridden
  pub doc_flags : c.loaded.doc_flags_overridden ≡ d.loaded.doc_flags_overridden
  pub rustc : option_map string_bytes c.build.rustc ≡ option_map string_bytes d.build.rustc
  pub wrapper : option_map string_bytes c.build.rustc_wrapper ≡ option_map string_bytes d.build.rustc_wrapper
  pub workspace_wrapper : option_map string_bytes c.build.rustc_workspace_wrapper ≡ option_map string_bytes d.build.rustc_workspace_wrapper
  pub rustflags : option_map flag_texts c.build.rustflags ≡ option_map flag_texts d.build.rustflags
  pub rustdocflags : option_map flag_texts c.build.rustdocflags ≡ option_map flag_texts d.build.rustdocflags
  pub variables : (name : List ℕ) → variables_of c.loaded.context name ≡ variables_of d.loaded.context name
  pub cargo : string_bytes c.loaded.context.cargo ≡ string_bytes d.loaded.context.cargo
  pub directory : string_bytes c.loaded.context.current_dir ≡ string_bytes d.loaded.context.current_dir
  pub chosen : option_map command_of c.loaded.context.rustc ≡ option_map command_of d.loaded.context.rustc
  pub host : option_map string_bytes c.loaded.context.host_triple ≡ option_map string_bytes d.loaded.context.host_triple

pub other_way : (c d : Config) → ReadsAlike c d → ReadsAlike d c
other_way c d same = record {
  tables = sym same.tables;
  cells = λ p. sym (same.cells p);
  flags = sym same.flags;
  doc_flags = sym same.doc_flags;
  rustc = sym same.rustc;
  wrapper = sym same.wrapper;
  workspace_wrapper = sym same.workspace_wrapper;
  rustflags = sym same.rustflags;
  rustdocflags = sym same.rustdocflags;
  variables = λ name. sym (same.variables name);
  cargo = sym same.cargo;
  directory = sym same.directory;
  chosen = sym same.chosen;
  host = sym same.host;
}

by_text : (es : List (String Global × TargetConfig)) → shown_entries saved_table (map {B = List ℕ × TargetConfig} (λ e. (string_bytes e.0, e.1)) es) ≡ map saved_entry es
by_text [] = refl
by_text (e ∷ es) = ap (λ (xs : List (List ℕ × Table)). saved_entry e ∷ xs) (by_text es)

flags_shown : (flags : Option Flags) → option_map flags_answer flags ≡ option_map texts (option_map flag_texts flags)
flags_shown None = refl
flags_shown (Some flags) = refl

flags_same : (f g : Option Flags) → option_map flag_texts f ≡ option_map flag_texts g → option_map flags_answer f ≡ option_map flags_answer g
flags_same f g same = flags_shown f ∙ ap (option_map texts) same ∙ sym (flags_shown g)

module _ (fs : Tree) (answers : Answers) (c d : Config) (same : ReadsAlike c d) where
  settings_alike : rustc_settings c ≡ rustc_settings d
  settings_alike = λ i. record {
    chosen = same.chosen i;
    rustc = same.rustc i;
    wrapper = same.wrapper i;
    workspace_wrapper = same.workspace_wrapper i;
    cargo = same.cargo i;
  }

  given_alike : with_tables (given_of c) d.loaded.target ≡ given_of d
  given_alike = λ i. record {
    tables = d.loaded.target;
    vars = λ name. same.variables name i;
    directory = same.directory i;
    build_flags = flags_same c.build.rustflags d.build.rustflags same.rustflags i;
    build_doc_flags = flags_same c.build.rustdocflags d.build.rustdocflags same.rustdocflags i;
    flags_overridden = same.flags i;
    doc_flags_overridden = same.doc_flags i;
  }

  shows : shown_entries saved_table (entries_by_text c.loaded.target) ≡ shown_entries saved_table (entries_by_text d.loaded.target)
  shows = by_text c.loaded.target.entries ∙ same.tables ∙ sym (by_text d.loaded.target.entries)

  command_alike : rustc_command_of fs c ≡ rustc_command_of fs d
  command_alike = ap (rustc_command (is_there fs)) settings_alike

  asked_alike : asked_by fs c ≡ asked_by fs d
  asked_alike = λ i. asked_for fs (same.host i) (settings_alike i) (same.variables (codes "RUSTC_BOOTSTRAP") i)

  pub target_alike : (t : Target) (a : TargetAnswer) → IsTarget (given_of c) (rustc_command_of fs c) answers t a
      → IsTarget (given_of d) (rustc_command_of fs d) answers t a
  target_alike t a is =
      subst (λ (g : Given). IsTarget g (rustc_command_of fs d) answers t a) given_alike
      (subst (λ (command : Command). IsTarget (with_tables (given_of c) d.loaded.target) command answers t a) command_alike
      (answer_same (given_of c) d.loaded.target (λ i p. same.cells p i) shows t.triple (set_said (rustc_command_of fs c) answers t) a is))

  pub cause_alike : (t : Target) (refusal : Refusal) → IsTargetCause (given_of c) (rustc_command_of fs c) answers t refusal
      → IsTargetCause (given_of d) (rustc_command_of fs d) answers t refusal
  cause_alike t refusal is =
      subst (λ (g : Given). IsTargetCause g (rustc_command_of fs d) answers t refusal) given_alike
      (subst (λ (command : Command). IsTargetCause (with_tables (given_of c) d.loaded.target) command answers t refusal) command_alike
      (cause_same (given_of c) d.loaded.target (λ i p. same.cells p i) shows t.triple (set_said (rustc_command_of fs c) answers t) refusal is))

module _ (fs : Tree) (answers : Answers) (c d : Config) (same : ReadsAlike c d) where
  for_target : (t : Option Target) (said : Result TargetAnswer Refusal) → IsOutcomeFor fs answers c t said → IsOutcomeFor fs answers d t said
  for_target None said is = is
  for_target (Some t) (Ok a) (is, free) =
      (target_alike fs answers c d same t a is, λ refusal cause. free refusal (cause_alike fs answers d c (other_way c d same) t refusal cause))
  for_target (Some t) (Err refusal) (inl wants) = inl wants
  for_target (Some t) (Err refusal) (inr cause) = inr (cause_alike fs answers c d same t refusal cause)

  item_alike : (item : Item) (outcome : Result (List ℕ) Refusal) → is_build item ≡ false → IsOutcomeOf fs answers c item outcome
      → IsOutcomeOf fs answers d item outcome
  item_alike build outcome other is = cc
  item_alike rustc outcome other is = is ∙ ap (λ command. Ok (rustc_lines command)) (command_alike fs answers c d same)
  item_alike host outcome other is = is ∙ ap (λ asked. in_lines host_line (host_said asked answers)) (asked_alike fs answers c d same)
  item_alike (target text) outcome other (said, of, is) = (said, for_target (target_of text) said of, is)
  item_alike (cfg text name) outcome other is =
      is ∙ ap (λ command. cfg_outcome command answers (target_of text) name) (command_alike fs answers c d same)
  item_alike rustc_version outcome other is =
      is ∙ ap (λ asked. in_lines rustc_version_lines (rustc_version_said asked answers)) (asked_alike fs answers c d same)
  item_alike cargo_version outcome other is =
      is ∙ ap (λ asked. in_lines cargo_version_lines (cargo_version_said asked answers)) (asked_alike fs answers c d same)

  answered_alike : (items : List Item) (found : List (List ℕ)) → list_any is_build items ≡ false → AreAnswered fs answers c items found
      → AreAnswered fs answers d items found
  answered_alike [] [] none are = tt
  answered_alike [] (text ∷ found) none are = absurd are
  answered_alike (item ∷ items) [] none are = absurd are
  answered_alike (item ∷ items) (text ∷ found) none (is, are) =
      let parts = or_parts (is_build item) (list_any is_build items) none in
      (item_alike item (Ok text) parts.0 is, answered_alike items found parts.1 are)

  front_of : (front : List Item) (item : Item) (behind : List Item) → list_any is_build (front ++ item ∷ behind) ≡ false
      → (list_any is_build front ≡ false) × (is_build item ≡ false)
  front_of [] item behind none = (refl, (or_parts (is_build item) (list_any is_build behind) none).0)
  front_of (first ∷ front) item behind none =
      let parts = or_parts (is_build first) (list_any is_build (front ++ item ∷ behind)) none in
      let (others, is) = front_of front item behind parts.1 in
      (ap (λ (b : Bool). b || list_any is_build front) parts.0 ∙ others, is)

  -- items that don't ask for the table `build` come to the same
  pub outcome_alike : (items : List Item) (outcome : Result (List ℕ) Refusal) → list_any is_build items ≡ false → AreOutcome fs answers c items outcome
      → AreOutcome fs answers d items outcome
  outcome_alike items (Ok text) none (found, are, is) = (found, answered_alike items found none are, is)
  outcome_alike items (Err refusal) none (inl wants) = inl wants
  outcome_alike items (Err refusal) none (inr first) =
      let (others, other) = front_of first.front first.item first.behind (sym (ap (list_any is_build) first.are) ∙ none) in
      inr (record {
        front = first.front;
        item = first.item;
        behind = first.behind;
        texts = first.texts;
        are = first.are;
        answered = answered_alike first.front first.texts others first.answered;
        refused = item_alike first.item (Err refusal) other first.refused;
      })
