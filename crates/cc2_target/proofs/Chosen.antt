-- What the linker and the runner show, by what the variables and tables show: for crates above this one.
use Rattle.std.proofs.Common.{◌≡◌, ℕ, Bool, List, [], ◌∷◌, map, Option, Some, None, option_and_then, codes, string_bytes, refl, sym, ap, ap₂, ◌∙◌, String, Global, inl, inr}
use Rattle.std.proofs.lemmas.Bool.{cases_Bool}
use Rattle.std.specs.Prelude.{if◌then◌else◌}
use Rattle.cc2_value.specs.Cells.{Key, field, KeyPath, Cell, Single, Setting, word}
use Rattle.cc2_value.specs.Shown.{single_at, option_at}
use Rattle.cc2_value.specs.Singles.{text_value}
use Rattle.cc2_value.specs.Values.{setting_of}
use Rattle.cc2_value.specs.declared.value.Value.{Value}
use Rattle.cc2_leaf.specs.Commands.{setting_of_command, command_value}
use Rattle.cc2_leaf.specs.declared.path_and_args.PathAndArgs.{PathAndArgs}
use Rattle.cc2_target_table.specs.Target.{target_at}
use Rattle.cc2_target_table.specs.declared.target.TargetConfig.{TargetConfig}
use Rattle.cc2_target.specs.Settings.{if_cli_cell}
use Rattle.cc2_target.specs.Sources.{chosen, first_present, if_cli, is_command_line, linker_origin, of_table, runner_origin, table_in, trues_in}
use Rattle.cc2_target.specs.declared.sources.TargetSources.{TargetSources}

module _ {A : Type 0} (setting : A → Setting) where
  abbrev shown : Option A → KeyPath → Option Cell
  shown o p = option_at (single_at setting) o p

  none_below : (o : Option A) (k : Key) (p : KeyPath) → shown o (k ∷ p) ≡ None
  none_below None k p = refl
  none_below (Some a) k p = refl

  -- the first that is there shows the first cell that is there
  first_shown : (os : List (Option A)) (p : KeyPath) → shown (first_present os) p ≡ first_present (map (λ o. shown o p) os)
  first_shown [] p = refl
  first_shown (None ∷ os) p = first_shown os p
  first_shown (Some a ∷ os) [] = refl
  first_shown (Some a ∷ os) (k ∷ p) = sym (all_none os)
    where
      all_none : (os : List (Option A)) → first_present (map (λ o. shown o (k ∷ p)) os) ≡ None
      all_none [] = refl
      all_none (None ∷ os) = all_none os
      all_none (Some a ∷ os) = all_none os

  cli_below : (o : Option A) (k : Key) (p : KeyPath) → if_cli_cell (shown o (k ∷ p)) ≡ None
  cli_below None k p = refl
  cli_below (Some a) k p = refl

  -- what was set on the command line shows its cell
  cli_shown : (o : Option A) (p : KeyPath) → shown (if_cli (λ a. (setting a).origin) o) p ≡ if_cli_cell (shown o p)
  cli_shown None p = refl
  cli_shown (Some a) [] = elim (cases_Bool (is_command_line (setting a).origin)) [
    | inl same ↦ ap (λ (b : Bool). shown (if b then Some a else None) []) same ∙ sym (ap (λ (b : Bool). if b then Some (Single (setting a)) else None) same)
    | inr other ↦ ap (λ (b : Bool). shown (if b then Some a else None) []) other ∙ sym (ap (λ (b : Bool). if b then Some (Single (setting a)) else None) other)
  ]
  cli_shown (Some a) (k ∷ p) = none_below (if_cli (λ a. (setting a).origin) (Some a)) k p ∙ sym (cli_below (Some a) k p)

  -- the cells of a field, by those of the tables below its key
  chosen_shown : (key : List ℕ) (of : TargetConfig → Option A)
      → ((t : TargetConfig) (p : KeyPath) → target_at t (field key ∷ p) ≡ shown (of t) p)
      → (v : Option A) (s : TargetSources) (p : KeyPath) → shown (chosen of (λ a. (setting a).origin) v s) p
      ≡ first_present (if_cli_cell (option_at target_at (table_in s) (field key ∷ p))
      ∷ (shown v p ∷ (option_at target_at (table_in s) (field key ∷ p) ∷ map (λ t. target_at t (field key ∷ p)) (trues_in s))))
  chosen_shown key of same v s p =
      first_shown (if_cli (λ a. (setting a).origin) (of_table of s) ∷ (v ∷ (of_table of s ∷ map of (trues_in s)))) p
      ∙ ap (λ x. first_present (x ∷ (shown v p ∷ (shown (of_table of s) p ∷ map (λ o. shown o p) (map of (trues_in s)))))) (cli_shown (of_table of s) p)
      ∙ ap₂ (λ x xs. first_present (if_cli_cell x ∷ (shown v p ∷ (x ∷ xs)))) (in_table (table_in s)) (in_trues (trues_in s))
    where
      in_table : (t : Option TargetConfig) → shown (option_and_then of t) p ≡ option_at target_at t (field key ∷ p)
      in_table None = refl
      in_table (Some t) = sym (same t p)

      in_trues : (ts : List TargetConfig) → map (λ o. shown o p) (map of ts) ≡ map (λ t. target_at t (field key ∷ p)) ts
      in_trues [] = refl
      in_trues (t ∷ ts) = ap₂ (λ x xs. x ∷ xs) (sym (same t p)) (in_trues ts)

-- the linker's cell is the first of the table's, where the command line set it, the variable's, the table's and
-- the true tables'
pub linker_shown : (v : Option (Value (String Global))) (s : TargetSources) (p : KeyPath)
    → text_value (chosen (λ t. t.linker) linker_origin v s) p
    ≡ first_present (if_cli_cell (option_at target_at (table_in s) (field (codes "linker") ∷ p))
    ∷ (text_value v p ∷ (option_at target_at (table_in s) (field (codes "linker") ∷ p)
    ∷ map (λ t. target_at t (field (codes "linker") ∷ p)) (trues_in s))))
linker_shown v s p =
    chosen_shown (setting_of (λ x. word (string_bytes x))) (codes "linker") (λ t. t.linker) (λ t q. refl) v s p

-- the same of the runner's
pub runner_shown : (v : Option PathAndArgs) (s : TargetSources) (p : KeyPath)
    → command_value (chosen (λ t. t.runner) runner_origin v s) p
    ≡ first_present (if_cli_cell (option_at target_at (table_in s) (field (codes "runner") ∷ p))
    ∷ (command_value v p ∷ (option_at target_at (table_in s) (field (codes "runner") ∷ p)
    ∷ map (λ t. target_at t (field (codes "runner") ∷ p)) (trues_in s))))
runner_shown v s p = chosen_shown setting_of_command (codes "runner") (λ t. t.runner) (λ t q. refl) v s p
