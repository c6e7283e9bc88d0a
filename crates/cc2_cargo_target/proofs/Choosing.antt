-- Keys of which none sets a program.
use Rattle.std.proofs.Common.{◌≡◌, ℕ, List, [], ◌∷◌, Option, None, Result, Ok, codes, false, refl, ap, ◌∙◌}
use Rattle.std.specs.Prelude.{if◌then◌else◌}
use Rattle.cc2_base.specs.declared.machine.Machine.{Machine}
use Rattle.cc2_cargo.specs.Raw.{Path, RawCell}
use Rattle.cc2_cargo_settings.specs.Found.{is_found, lookup_at}
use Rattle.cc2_cargo_settings.specs.Commands.{command_at}
use Rattle.cc2_cargo_settings.specs.Values.{on_ok, text_at}
use Rattle.cc2_cargo_target.specs.AtKey.{key_path, linker_at, runner_at, variable_at_key}
use Rattle.cc2_cargo_target.specs.Chosen.{as_command, chosen_from, one_more_choice, program_key, set_at_key}
use Rattle.cc2_cargo_target.specs.declared.program.Program.{Program}
use Rattle.cc2_cargo_target.specs.declared.program.Program.TheVariants as program

module _ (look : Path → Option RawCell) (machine : Machine) where
  -- no key has something there
  abbrev pub HasNone : List ℕ → Type 0
  HasNone what = (k : List ℕ) → is_found (lookup_at look (key_path k what)) ≡ false

  pub no_linker : HasNone (codes "linker") → (k : List ℕ) → linker_at look machine k ≡ Ok None
  no_linker none k =
      ap (λ b. if b then text_at look machine (key_path k (codes "linker")) (variable_at_key k (codes "linker")) else Ok None) (none k)

  pub no_runner : HasNone (codes "runner") → (k : List ℕ) → runner_at look machine k ≡ Ok None
  no_runner none k =
      ap (λ b. if b then command_at look machine (key_path k (codes "runner")) (variable_at_key k (codes "runner")) else Ok None) (none k)

  nothing_set : (p : Program) → HasNone (program_key p) → (k : List ℕ) → set_at_key look machine p k ≡ Ok None
  nothing_set program.Linker none k = ap as_command (no_linker none k)
  nothing_set program.Runner none k = no_runner none k

  pub none_chosen : (p : Program) → HasNone (program_key p) → (ks : List (List ℕ)) → chosen_from look machine p None ks ≡ Ok None
  none_chosen p none [] = refl
  none_chosen p none (k ∷ ks) =
      ap (λ r. on_ok (λ next. chosen_from look machine p next ks) (on_ok (λ set. one_more_choice p None k set) r)) (nothing_set p none k)
      ∙ none_chosen p none ks
