use Rattle.std.proofs.Common.{◌≡◌, ◌++◌, drop, map, option_map, string_bytes}
use Rattle.cc2_cargo.specs.Raw.{raw_value}
use Rattle.cc2_cargo_settings.specs.Cells.{plain_texts}
use Rattle.cc2_cargo_settings.proofs.text_array.plain_texts.Given as goal

-- the texts so far, and those of the values left
abbrev pub invariant-loop-value : goal.invariant-loop-value
invariant-loop-value l =
    option_map (λ left. map string_bytes l.texts.items ++ left) (plain_texts (map raw_value (drop l.value-index l.values)))
    ≡ plain_texts (map raw_value l.values)
