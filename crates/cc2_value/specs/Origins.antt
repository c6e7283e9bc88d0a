-- How an origin is written.
use Rattle.std.specs.Prelude.{ℕ, List, ◌++◌, codes, Some, None}
use Rattle.cc2_value.specs.Cells.{Origin, file, variable, command_line}

abbrev pub origin_text : Origin → List ℕ
origin_text (file path) = path
origin_text (variable name) = codes "environment variable `" ++ (name ++ codes "`")
origin_text (command_line (Some path)) = path
origin_text (command_line None) = codes "--config cli option"
