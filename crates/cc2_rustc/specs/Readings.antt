-- How an implementation of `Cfg` reads values, and the answer by it. The names that rustc
-- prints with values: Rust Reference, Conditional compilation, "Set configuration options".
use Rattle.std.specs.Prelude.{◌≡◌, ℕ, nat_lt, List, [], ◌∷◌, length, if◌then◌else◌}
use Rattle.std.specs.Prelude.{Option, Some, None, Result, Ok, Err, ok_or}
use Rattle.cc2_error.specs.Causes.{Refusal, plain, cfg_value_absent, cfg_value_too_many, cfg_value_unreadable}
use Rattle.cc2_rustc.specs.declared.cfg.CfgFault.{CfgFault}
use Rattle.cc2_rustc.specs.declared.cfg.CfgFault.TheVariants.{Memory, Unreadable}

-- the answer where rustc printed no value, and what values are read as: none where they can't be read
pub record Reading (A : Type 0) : Type 0 where
  pub default : Option A
  pub read : List (List ℕ) → Option A

-- the values are read so, or memory ran out
abbrev pub ReadsAs : {T A : Type 0} → (T → A) → Result T CfgFault → Option A → Type 0
ReadsAs view (Ok output) read = read ≡ Some (view output)
ReadsAs view (Err Memory) read = Unit {0}
ReadsAs view (Err Unreadable) read = read ≡ None

-- the answer to the question for a name with these values: the default where there are none, else
-- what they are read as, where they are as many as may be at most
abbrev pub cfg_answer : {A : Type 0} → List ℕ → ℕ → Reading A → List (List ℕ) → Result A Refusal
cfg_answer name most reading [] = ok_or reading.default (plain (cfg_value_absent name))
cfg_answer name most reading (value ∷ values) =
    if nat_lt most (length (value ∷ values)) then Err (plain (cfg_value_too_many name))
    else ok_or (reading.read (value ∷ values)) (plain (cfg_value_unreadable name))

-- a reading of exactly one value, unchanged
abbrev pub one_text : List (List ℕ) → Option (List ℕ)
one_text [] = None
one_text (text ∷ []) = Some text
one_text (text ∷ (other ∷ texts)) = None
