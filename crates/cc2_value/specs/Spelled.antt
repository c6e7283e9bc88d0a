-- Ways of reading enums that are spelled.
use Rattle.std.specs.Prelude.{ℕ, List, map, Option, Some, None, option_map, if◌then◌else◌}
use Rattle.toml.specs.Data.{Data, as_str}
use Rattle.cc2_value.specs.Cells.{KeyPath, Cell, Payload, word}
use Rattle.cc2_value.specs.Shown.{single_at, option_at}
use Rattle.cc2_value.specs.Spellings.{is_spelling, color_spelling, colors, when_spelling, whens, frequency_spelling, frequencies, protocol_spelling, protocols, vcs_spelling, all_vcs}
use Rattle.cc2_value.specs.Values.{setting_of}
use Rattle.cc2_value.specs.Ways.{Way, plain_way}
use Rattle.cc2_value.specs.declared.color.Color.{Color}
use Rattle.cc2_value.specs.declared.when.When.{When}
use Rattle.cc2_value.specs.declared.frequency.Frequency.{Frequency}
use Rattle.cc2_value.specs.declared.registries_protocol.RegistriesProtocol.{RegistriesProtocol}
use Rattle.cc2_value.specs.declared.version_control_software.VersionControlSoftware.{VersionControlSoftware}
use Rattle.cc2_value.specs.declared.value.Value.{Value}

-- the text, where it is one of these
abbrev pub spelling_in : List (List ℕ) → Option (List ℕ) → Option (List ℕ)
spelling_in texts None = None
spelling_in texts (Some text) = if is_spelling texts text then Some text else None

-- what is read of a TOML value as one of these texts
abbrev pub spelled_read : List (List ℕ) → Data → Option Payload
spelled_read texts d = option_map word (spelling_in texts (as_str d))

abbrev pub spelled_way : List (List ℕ) → Way
spelled_way texts = plain_way (spelled_read texts)

abbrev pub color_way : Way
color_way = spelled_way (map color_spelling colors)

abbrev pub when_way : Way
when_way = spelled_way (map when_spelling whens)

abbrev pub frequency_way : Way
frequency_way = spelled_way (map frequency_spelling frequencies)

abbrev pub protocol_way : Way
protocol_way = spelled_way (map protocol_spelling protocols)

abbrev pub vcs_way : Way
vcs_way = spelled_way (map vcs_spelling all_vcs)

-- the cells of a table's field, by the type of its value
abbrev pub color_value : Option (Value Color) → KeyPath → Option Cell
color_value v p = option_at (single_at (setting_of (λ e. word (color_spelling e)))) v p

abbrev pub when_value : Option (Value When) → KeyPath → Option Cell
when_value v p = option_at (single_at (setting_of (λ e. word (when_spelling e)))) v p

abbrev pub frequency_value : Option (Value Frequency) → KeyPath → Option Cell
frequency_value v p = option_at (single_at (setting_of (λ e. word (frequency_spelling e)))) v p

abbrev pub protocol_value : Option (Value RegistriesProtocol) → KeyPath → Option Cell
protocol_value v p = option_at (single_at (setting_of (λ e. word (protocol_spelling e)))) v p

abbrev pub vcs_value : Option (Value VersionControlSoftware) → KeyPath → Option Cell
vcs_value v p = option_at (single_at (setting_of (λ e. word (vcs_spelling e)))) v p
