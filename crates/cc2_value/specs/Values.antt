-- The words and settings of single values.
use Rattle.std.specs.Prelude.{None, option_map, String, string_bytes, map, List}
use Rattle.std.specs.declared.alloc.Global.{Global}
use Rattle.cc2_value.specs.Cells.{Origin, file, variable, command_line, Word, Payload, Setting}
use Rattle.cc2_value.specs.declared.definition.Definition.{Definition}
use Rattle.cc2_value.specs.declared.definition.Definition.TheVariants.{Path, Environment, Cli}
use Rattle.cc2_value.specs.declared.value.Value.{Value}

abbrev pub origin_of : Definition → Origin
origin_of (Path p) = file (string_bytes p)
origin_of (Environment n) = variable (string_bytes n)
origin_of (Cli p) = command_line (option_map string_bytes p)

abbrev pub word_of : Value (String Global) → Word
word_of v = record { text = string_bytes v.val; origin = option_map origin_of v.definition }

abbrev pub words_of : List (Value (String Global)) → List Word
words_of vs = map word_of vs

abbrev pub setting_of : {T : Type 0} → (T → Payload) → Value T → Setting
setting_of payload v = record { payload = payload v.val; origin = option_map origin_of v.definition }

-- a payload alone, without its origin
abbrev pub bare_setting : {T : Type 0} → (T → Payload) → T → Setting
bare_setting payload x = record { payload = payload x; origin = None }
