-- What Cargo 1.95 reads at a key that takes some texts alone, as `term.color`. Cargo Reference, Configuration, configuration keys.
use Rattle.std.specs.Prelude.{ℕ, List, Option, Some, None, Result, Ok, Err, if◌then◌else◌}
use Rattle.cc2_error.specs.Causes.{Refusal}
use Rattle.cc2_base.specs.declared.machine.Machine.{Machine}
use Rattle.cc2_value.specs.Cells.{Word}
use Rattle.cc2_cargo.specs.Raw.{Path, RawCell}
use Rattle.cc2_cargo_settings.specs.Checks.{accepts, misfit, must_of}
use Rattle.cc2_cargo_settings.specs.Values.{on_ok, text_at}
use Rattle.cc2_cargo_settings.specs.Variables.{Given, given}
use Rattle.cc2_cargo_settings.specs.declared.check.Check.{Check}

-- a text, where the setting takes it
abbrev pub if_accepted : Path → List ℕ → Check → Given → Option Word → Result (Option Word) Refusal
if_accepted path name check g None = Ok None
if_accepted path name check g (Some w) = if accepts check w.text then Ok (Some w) else Err (misfit path name (must_of check) g w.origin)

-- the text at a path, or that of its variable
abbrev pub checked_text_at : (Path → Option RawCell) → Machine → Check → Path → List ℕ → Result (Option Word) Refusal
checked_text_at look machine check path name = on_ok (if_accepted path name check (given machine name)) (text_at look machine path name)
