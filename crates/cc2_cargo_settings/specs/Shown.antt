-- What lists of texts show.
use Rattle.std.specs.Prelude.{List, Option, option_map, String, Vec}
use Rattle.std.specs.declared.alloc.Global.{Global}
use Rattle.cc2_value.specs.Cells.{Word}
use Rattle.cc2_value.specs.Values.{words_of}
use Rattle.cc2_value.specs.declared.value.Value.{Value}

abbrev pub list_view : Option (Vec (Value (String Global)) Global) → Option (List Word)
list_view words = option_map (λ ws. words_of ws.items) words
