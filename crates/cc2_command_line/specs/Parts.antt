-- A command line word by word.
use Rattle.std.specs.Prelude.{ℕ, Bool, List, [], ◌∷◌, codes, map, length, nat_eq, Option, Some, None, option_map, bytes_eq, not, ◌||◌, ◌==◌, if◌then◌else◌}
use Rattle.std.specs.Prelude.{Result, Ok, Err}
use Rattle.std.specs.List.{after_first, before_first, position_or_len, starts_with}
use Rattle.cc2_command_line.specs.Faults.{Fault, no_value, unknown_option}
use Rattle.cc2_command_line.specs.Options.{flag_named, setting_named}
use Rattle.cc2_command_line.specs.declared.option.Flag.{Flag}
use Rattle.cc2_command_line.specs.declared.option.Setting.{Setting}
use Rattle.cc2_command_line.specs.declared.part.Part.{Part as CodePart}
use Rattle.cc2_command_line.specs.declared.part.Part.TheVariants as code

-- a part of a command line
pub data Part : Type 0 where
  -- an option without a value
  flag : Flag → Part
  -- an option and its value
  setting : Setting → List ℕ → Part
  -- an argument that is neither an option nor the value of one
  operand : List ℕ → Part

abbrev pub is_equals : ℕ → Bool
is_equals c = c == 61

-- the text before and after the first `=`
abbrev pub cut : List ℕ → Option (List ℕ × List ℕ)
cut word = if position_or_len is_equals word == length word then None else Some (before_first is_equals word, after_first is_equals word)

abbrev pub is_long : List ℕ → Bool
is_long word = starts_with nat_eq word (codes "--")

-- the long option of this name, with its value
abbrev pub by_name : Option (List ℕ × List ℕ) → Option (Setting × List ℕ)
by_name None = None
by_name (Some p) = option_map (λ s. (s, p.1)) (setting_named p.0)

-- an option and its value in one word: `--NAME=VALUE`
abbrev pub attached : List ℕ → Option (Setting × List ℕ)
attached word = if is_long word then by_name (cut word) else None

-- a word that doesn't begin as an option does; `-` alone is one
abbrev pub is_operand : List ℕ → Bool
is_operand word = bytes_eq word (codes "-") || not (starts_with nat_eq word (codes "-"))

abbrev pub or_operand : List ℕ → Option (Setting × List ℕ) → Option Part
or_operand word (Some p) = Some (setting p.0 p.1)
or_operand word None = if is_operand word then Some (operand word) else None

abbrev pub or_other : List ℕ → Option Flag → Option Part
or_other word (Some f) = Some (flag f)
or_other word None = or_operand word (attached word)

-- the part that a word is by itself
abbrev pub single_part : List ℕ → Option Part
single_part word = or_other word (flag_named word)

abbrev pub or_unknown : List ℕ → Option Part → Result Part Fault
or_unknown word (Some part) = Ok part
or_unknown word None = Err (unknown_option word)

-- the same, where a word that is no part is an unknown option
abbrev pub alone : List ℕ → Result Part Fault
alone word = or_unknown word (single_part word)

-- a part in front of those of the words after it; the first fault, if there is one
abbrev pub in_front : Result Part Fault → Result (List Part) Fault → Result (List Part) Fault
in_front (Err fault) parts = Err fault
in_front (Ok part) (Err fault) = Err fault
in_front (Ok part) (Ok parts) = Ok (part ∷ parts)

-- the part that the last word is; an option that takes a value has none there
abbrev pub last_part : List ℕ → Option Setting → Result Part Fault
last_part word (Some s) = Err (no_value s)
last_part word None = alone word

-- the parts of a word that may take the next one as its value: with it, or without it
abbrev pub with_next : List ℕ → List ℕ → Option Setting → Result (List Part) Fault → Result (List Part) Fault → Result (List Part) Fault
with_next word next (Some s) after_next after = in_front (Ok (setting s next)) after_next
with_next word next None after_next after = in_front (alone word) after

-- the parts of a command line; after `--` all words are operands
abbrev pub parts_of : List (List ℕ) → Result (List Part) Fault
parts_of [] = Ok []
parts_of (word ∷ []) = if bytes_eq word (codes "--") then Ok [] else in_front (last_part word (setting_named word)) (Ok [])
parts_of (word ∷ (next ∷ words)) =
    if bytes_eq word (codes "--") then Ok (map operand (next ∷ words))
    else with_next word next (setting_named word) (parts_of words) (parts_of (next ∷ words))

-- a part of the code
abbrev pub part_view : CodePart → Part
part_view (code.Flag f) = flag f
part_view (code.Setting s value) = setting s value.now
part_view (code.Operand word) = operand word.now
