use Rattle.std.proofs.Common.{◌≡◌, ℕ, true, List, Some, Ok, if◌then◌else◌, refl, sym, ap, ◌∙◌}
use Rattle.cc2_cargo_settings.specs.Changes.{flag_cells, own_text, text_cells}
use Rattle.cc2_cargo_settings.specs.Checks.{accepts, must_of, wrong_text}
use Rattle.std.specs.Prelude.{Err}
use Rattle.cc2_cargo_settings.specs.declared.check.Check.{Check}
use Rattle.cc2_cargo_settings.specs.declared.setting.Kind.{Kind}
use Rattle.cc2_cargo_settings.specs.declared.setting.Kind.TheVariants.{Text, Checked, Flag, Number, Words, Command, TextOrList, TextOrWords, Mixed}
use Rattle.cc2_cargo_settings.proofs.change.own_text.Goals as goal
use Rattle.cc2_cargo_settings.proofs.change.own_text.Goals.{in_default-via-in-Checked+else-not-accepts, in_default-via-in_default}

-- a text, where it is no flag and isn't checked
plain_text : (kind : Kind) (name t : List ℕ) → (kind ≡ Flag → ⊥) → ((check : Check) → kind ≡ Checked check → ⊥)
    → own_text kind name t ≡ Ok (Some (text_cells name t))
plain_text Text name t no_flag unchecked = refl
plain_text (Checked check) name t no_flag unchecked = absurd (unchecked check refl)
plain_text Flag name t no_flag unchecked = absurd (no_flag refl)
plain_text (Number width) name t no_flag unchecked = refl
plain_text Words name t no_flag unchecked = refl
plain_text Command name t no_flag unchecked = refl
plain_text TextOrList name t no_flag unchecked = refl
plain_text TextOrWords name t no_flag unchecked = refl
plain_text (Mixed mixed) name t no_flag unchecked = refl

-- a text that is accepted
accepted : (kind : Kind) (check : Check) (name t : List ℕ) → kind ≡ Checked check → true ≡ accepts check t
    → own_text kind name t ≡ Ok (Some (text_cells name t))
accepted kind check name t is taken =
    ap (λ k. own_text k name t) is
    ∙ ap (λ b. if b then Ok (Some (text_cells name t)) else Err (wrong_text name (must_of check) t)) (sym taken)

pub returns-in_ok-flag_by-in-Flag : goal.returns-in_ok-flag_by-in-Flag
returns-in_ok-flag_by-in-Flag c =
    ap (λ k. own_text k c.args.name.now c.args.text.now) c.in-Flag.is
    ∙ ap (λ b. Ok (Some (flag_cells c.args.name.now b))) (sym c.eq.ensures)
    ∙ ap (λ x. Ok (Some x)) (sym c.in_ok-flag_by-in-Flag.ensures)

pub returns-in_ok-text_by-in_default : goal.returns-in_ok-text_by-in_default
returns-in_ok-text_by-in_default c =
    elim c.in_default.branch [
      | in_default-via-in-Checked+else-not-accepts w ↦
          accepted c.args.kind w.in-Checked.check c.args.name.now c.args.text.now w.in-Checked.is w.if-not-accepts.ensures
          ∙ ap (λ x. Ok (Some x)) (sym c.in_ok-text_by-in_default.ensures)
      | in_default-via-in_default w ↦
          plain_text c.args.kind c.args.name.now c.args.text.now w.in_default.not-Flag w.in_default.not-Checked
          ∙ ap (λ x. Ok (Some x)) (sym c.in_ok-text_by-in_default.ensures)
    ]
