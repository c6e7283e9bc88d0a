-- Ways of reading single values.
use Rattle.std.specs.Prelude.{ℤ, ℕ, pos, Bool, Option, Some, None, option_map, String, string_bytes}
use Rattle.std.specs.declared.alloc.Global.{Global}
use Rattle.toml.specs.Data.{Data, as_str, as_bool, as_integer}
use Rattle.cc2_value.specs.Cells.{KeyPath, Cell, Payload, number, truth, word}
use Rattle.cc2_value.specs.Shown.{single_at, option_at}
use Rattle.cc2_value.specs.Values.{setting_of}
use Rattle.cc2_value.specs.Ways.{Way, plain_way}
use Rattle.cc2_value.specs.declared.value.Value.{Value}
use Rattle.cc2_value.specs.Numbers.{int32_of, uint32_of}

-- what is read of a TOML value as a whole number from -2147483648 to 2147483647
abbrev pub int32_in : Option ℤ → Option ℤ
int32_in None = None
int32_in (Some z) = int32_of z

abbrev pub int32_read : Data → Option Payload
int32_read d = option_map number (int32_in (as_integer d))

abbrev pub int32_way : Way
int32_way = plain_way int32_read

-- as a whole number from 0 to 4294967295
abbrev pub uint32_in : Option ℤ → Option ℕ
uint32_in None = None
uint32_in (Some z) = uint32_of z

abbrev pub uint32_read : Data → Option Payload
uint32_read d = option_map (λ n. number (pos n)) (uint32_in (as_integer d))

abbrev pub uint32_way : Way
uint32_way = plain_way uint32_read

-- as a truth value
abbrev pub truth_read : Data → Option Payload
truth_read d = option_map truth (as_bool d)

abbrev pub truth_way : Way
truth_way = plain_way truth_read

-- as a text
abbrev pub text_read : Data → Option Payload
text_read d = option_map word (as_str d)

abbrev pub text_way : Way
text_way = plain_way text_read

-- the cells of a table's field, by the type of its value
abbrev pub whole_number : Option (Value ℤ) → KeyPath → Option Cell
whole_number v p = option_at (single_at (setting_of number)) v p

abbrev pub counting_number : Option (Value ℕ) → KeyPath → Option Cell
counting_number v p = option_at (single_at (setting_of (λ n. number (pos n)))) v p

abbrev pub truth_value : Option (Value Bool) → KeyPath → Option Cell
truth_value v p = option_at (single_at (setting_of truth)) v p

abbrev pub text_value : Option (Value (String Global)) → KeyPath → Option Cell
text_value v p = option_at (single_at (setting_of (λ s. word (string_bytes s)))) v p
