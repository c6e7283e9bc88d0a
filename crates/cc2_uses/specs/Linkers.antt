-- What a linker that is given shows.
use Rattle.std.specs.Prelude.{Option, String, option_map}
use Rattle.std.specs.declared.alloc.Global.{Global}
use Rattle.cargo_config2.specs.Answers.{Answer, text_answer}

abbrev pub shown : Option (String Global) → Option Answer
shown linker = option_map text_answer linker
