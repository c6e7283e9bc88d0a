-- Settings at a key, read by another name where no variable is set.
use Rattle.std.proofs.Common.{◌≡◌, ℕ, List, [], ◌∷◌, ◌++◌, Result, Ok, Err, codes, false, inl, inr, refl, sym, ap, ◌∙◌}
use Rattle.std.proofs.lemmas.List.{append-nil}
use Rattle.cc2_error.specs.Causes.{Refusal}
use Rattle.cc2_base.specs.declared.machine.Machine.{Machine}
use Rattle.cc2_cargo_settings.specs.Values.{on_ok}
use Rattle.cc2_cargo_settings.specs.Variables.{Given, given, is_any_below, unset as no_value}
use Rattle.cc2_cargo_settings.proofs.Unset.{unset}
use Rattle.cc2_cargo_target.specs.AtKey.{IsNameFor, variable_at_key}

-- what is read of a setting and of what its variable gives, where no name counts for nothing given
pub same_read : {S T : Type 0} (read_by : List ℕ → Given → S → Result T Refusal) → ((m n : List ℕ) (s : S) → read_by m no_value s ≡ read_by n no_value s)
    → (machine : Machine) (wanted name : List ℕ) → IsNameFor machine wanted name → (set : Result S Refusal)
    → on_ok (read_by name (given machine name)) set ≡ on_ok (read_by wanted (given machine wanted)) set
same_read read_by none machine wanted name (inl is) set = ap (λ n. on_ok (read_by n (given machine n)) set) is
same_read read_by none machine wanted name (inr (unnamed, unwanted)) (Ok s) =
    ap (λ t. read_by name t s) unnamed ∙ none name wanted s ∙ sym (ap (λ t. read_by wanted t s) unwanted)
same_read read_by none machine wanted name (inr (unnamed, unwanted)) (Err refusal) = refl

-- where no variable of any target is set, what all begin with is read as each
pub front_alone : (machine : Machine) (key what name : List ℕ) → is_any_below machine (codes "CARGO_TARGET_") ≡ false → name ≡ codes "CARGO_TARGET_"
    → IsNameFor machine (variable_at_key key what) name
front_alone machine key what name none is =
    let front = codes "CARGO_TARGET_" in
    inr (
      ap (given machine) (is ∙ sym (append-nil front)) ∙ unset front [] machine none,
      unset front (key ++ (95 ∷ what)) machine none,
    )
