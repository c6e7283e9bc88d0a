-- What the variables of a triple set. Cargo Reference, Configuration, `target.<triple>`.
use Rattle.std.specs.Prelude.{◌⊎◌, ℕ, List, ◌++◌, Contains, codes, Option, option_map, string_bytes}
use Rattle.cc2_error.specs.Causes.{Refusal, refusal_of}
use Rattle.cc2_error.specs.Outcomes.{IsWantOfMemory}
use Rattle.cc2_error.specs.declared.error.Error.{Error}
use Rattle.cc2_value.specs.Cells.{word}
use Rattle.cc2_value.specs.Shown.{single_at}
use Rattle.cc2_value.specs.Values.{setting_of}
use Rattle.cc2_leaf.specs.Commands.{setting_of_command}
use Rattle.cc2_leaf.specs.Lists.{flags_at}
use Rattle.cc2_leaf.specs.TextWays.{any_text_way, command_text_way, spaced_text_way}
use Rattle.cc2_env.specs.Kept.{Variables}
use Rattle.cc2_env.specs.Reads.{IsFound, found_refusals}
use Rattle.cc2_base.specs.VariableNames.{target_variable}
use Rattle.cc2_target.specs.declared.variables.TargetVariables.{TargetVariables}

-- a variable and its value, where it is set
abbrev pub set_in : Variables → List ℕ → Option (List ℕ × List ℕ)
set_in vars n = option_map (λ value. (n, value)) (vars n)

-- the same of the variable that sets this of a triple
abbrev pub set_for : Variables → List ℕ → List ℕ → Option (List ℕ × List ℕ)
set_for vars triple what = set_in vars (target_variable triple what)

-- each of the four shows its variable's value, which isn't refused, or is absent where that isn't set
abbrev pub AreRead : Variables → List ℕ → TargetVariables → Type 0
AreRead vars triple read =
    IsFound (single_at (setting_of (λ s. word (string_bytes s)))) any_text_way (set_for vars triple (codes "_LINKER"))
    read.linker
    × IsFound (single_at setting_of_command) command_text_way (set_for vars triple (codes "_RUNNER")) read.runner
    × IsFound flags_at spaced_text_way (set_for vars triple (codes "_RUSTFLAGS")) read.rustflags
    × IsFound flags_at spaced_text_way (set_for vars triple (codes "_RUSTDOCFLAGS")) read.rustdocflags

-- why the four variables of a triple are refused
abbrev pub variable_refusals : Variables → List ℕ → List Refusal
variable_refusals vars triple =
    found_refusals any_text_way (set_for vars triple (codes "_LINKER"))
    ++ (found_refusals command_text_way (set_for vars triple (codes "_RUNNER"))
    ++ (found_refusals spaced_text_way (set_for vars triple (codes "_RUSTFLAGS"))
    ++ found_refusals spaced_text_way (set_for vars triple (codes "_RUSTDOCFLAGS"))))

-- memory is refused, or one of the four is
abbrev pub IsReadCause : Variables → List ℕ → Error → Type 0
IsReadCause vars triple e = IsWantOfMemory e ⊎ Contains (variable_refusals vars triple) (refusal_of e)
