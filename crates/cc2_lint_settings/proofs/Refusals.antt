-- What is refused, by the error of a result.
use Rattle.std.proofs.Common.{◌≡◌, ℕ, List, [], Option, Some, None, Result, Ok, Err, sym, ap, subst, inl, inr}
use Rattle.toml.specs.Data.{Members}
use Rattle.cc2_error.specs.Causes.{Refusal, memory, refusal_of}
use Rattle.cc2_error.specs.Outcomes.{Answered, Gives}
use Rattle.cc2_error.specs.declared.error.Error.{Error}
use Rattle.cc2_value.specs.Cells.{KeyPath, Cell}
use Rattle.cc2_value.specs.Ways.{IsFaultBehind}
use Rattle.cc2_de.specs.Config.{config_at, config_faults}
use Rattle.cc2_de.specs.declared.configured.Configured.{Configured}
use Rattle.cargo_config2.specs.Config.{shown}
use Rattle.cargo_config2.specs.Resolution.{IsResolutionOf, IsUnresolved, directory_of}
use Rattle.cargo_config2.specs.declared.config.Config.{Config}
use Rattle.cc2_lint_settings.specs.Errors.{IsErrorOf, IsStated}
use Rattle.cc2_lint_settings.specs.Resolving.{IsRefusalAt, IsTablesRefusal}
use Rattle.cc2_lint_settings.specs.Unresolved.{AreCellsOf, IsReadRefusal}

-- the error of a result that gives what is stated
pub stated : {T A : Type 0} (view : T → A) (r : Result T Error) (is : Result A Refusal) (e : Option Error)
    → Gives view r is → IsErrorOf r e → IsStated is e
stated view (Ok value) is None gives error = (view value, gives)
stated view (Ok value) is (Some e) gives error = absurd error
stated view (Err f) is None gives error = absurd error
stated view (Err f) is (Some e) (inl wants) error = absurd (error.1 (ap (λ r. r.cause) wants))
stated view (Err f) is (Some e) (inr refused) error = subst (λ (g : Error). is ≡ Err (refusal_of g)) (sym error.0) refused

-- that of a resolution
pub resolved : (configured : Configured) (r : Result Config Error) (e : Option Error)
    → Answered (λ c. c) r (IsResolutionOf configured) (IsUnresolved configured) → IsErrorOf r e
    → IsTablesRefusal (directory_of configured) (config_at configured.config) e
resolved configured (Ok c) None answered error = (shown c, answered.0.cells.tables)
resolved configured (Ok c) (Some e) answered error = absurd error
resolved configured (Err f) None answered error = absurd error
resolved configured (Err f) (Some e) (inl wants) error = absurd (error.1 (ap (λ r. r.cause) wants))
resolved configured (Err f) (Some e) (inr stands) error = subst (λ (g : Error). IsUnresolved configured (refusal_of g)) (sym error.0) stands

-- a file is read, and resolved so
pub read : (directory path : List ℕ) (keys : List (List ℕ)) (ms : Members) (m : KeyPath → Option Cell) (e : Option Error)
    → config_faults ms ≡ [] → AreCellsOf path ms m → IsRefusalAt directory keys m e → IsReadRefusal directory path keys ms e
read directory path keys ms m None sound are is = inr (m, are, is)
read directory path keys ms m (Some e) sound are is = (sound, (m, are, is))

-- a file is refused by a load
pub unread : (directory path : List ℕ) (keys : List (List ℕ)) (ms : Members) (e : Error) → IsFaultBehind [] (config_faults ms) e
    → ((refusal_of e).cause ≡ memory → ⊥) → IsReadRefusal directory path keys ms None
unread directory path keys ms e (inl wants) other = absurd (other (ap (λ r. r.cause) wants))
unread directory path keys ms e (inr flawed) other = inl (flawed.0, flawed.1)
