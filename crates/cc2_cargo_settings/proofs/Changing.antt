-- The settings under variables, from the changes that these make.
use Rattle.std.proofs.Common.{◌≡◌, List, ◌++◌, String, Global, BTreeMap, Result, Ok, Err, IfOk, IfErr, inl, sym, ap, ◌∙◌}
use Rattle.cc2_error.specs.Causes.{memory, plain, refusal_of}
use Rattle.cc2_error.specs.Outcomes.{Gives}
use Rattle.cc2_error.specs.declared.error.Error.{Error}
use Rattle.cc2_base.specs.declared.machine.Machine.{Machine}
use Rattle.cc2_cargo.specs.Raw.{Path, raw_members_at}
use Rattle.cc2_cargo.specs.declared.raw.Raw.{Raw}
use Rattle.cc2_cargo_settings.specs.Changes.{Change, changes_at}
use Rattle.cc2_cargo_settings.specs.Named.{RawTable, named_rows}
use Rattle.cc2_cargo_settings.specs.Settings.{rows}
use Rattle.cc2_cargo_settings.specs.Under.{under, under_at}
use Rattle.cc2_cargo_settings.specs.Values.{on_ok}

abbrev Settings : Type 0
Settings = BTreeMap (String Global) Raw

pub changes_made : (settings : RawTable) (machine : Machine) (asked : Path) (cs : List Change) (r : Result Settings Error)
    → changes_at (raw_members_at settings) machine asked (rows ++ named_rows settings asked) ≡ Ok cs
    → IfOk r (λ new. raw_members_at new ≡ under_at cs (raw_members_at settings))
    → IfErr r (λ e. refusal_of e ≡ plain memory) → Gives raw_members_at r (under settings machine asked)
changes_made settings machine asked cs (Ok new) read made refused =
    ap (on_ok (λ xs. Ok (under_at xs (raw_members_at settings)))) read ∙ ap Ok (sym made)
changes_made settings machine asked cs (Err e) read made refused = inl refused
