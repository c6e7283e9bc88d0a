-- A target's settings as JSON.
use Rattle.std.specs.Prelude.{ℕ, List, ◌∷◌, codes, map, Option, Some, None, option_map}
use Rattle.serde_json.specs.Data.{Data, Members, no_members, null, string, array, object}
use Rattle.serde_json.specs.Data as json
use Rattle.serde_json.specs.View.{items_of}
use Rattle.cc2_error.specs.Commands.{Command}
use Rattle.cc2_value.specs.Cells.{Payload, word}
use Rattle.cc2_resolved.specs.Answers.{Answer}
use Rattle.cc2_resolved.specs.Answers as answer
use Rattle.cc2_resolved.specs.TargetConfigs.{TargetAnswer}

abbrev pub flags_data : List (List ℕ) → Data
flags_data texts = array (items_of (map string texts))

-- a command is a list of its program and its arguments
abbrev pub command_data : Command → Data
command_data c = flags_data (c.program ∷ c.args)

abbrev pub single_data : Payload → Data
single_data (word text) = string text
single_data payload = null

-- what a setting shows: a text, a command or a list
abbrev pub answer_data : Answer → Data
answer_data (answer.single payload) = single_data payload
answer_data (answer.texts list) = flags_data list
answer_data (answer.command c) = command_data c
answer_data a = null

-- a setting among the members, where it is set
abbrev pub put_some : List ℕ → Option Data → Members → Members
put_some key None ms = ms
put_some key (Some d) ms = json.put key d ms

-- the settings for a target: an object of those that are set
abbrev pub settings_data : TargetAnswer → Data
settings_data a =
    object (put_some (codes "rustdocflags") (option_map answer_data a.rustdocflags)
    (put_some (codes "rustflags") (option_map answer_data a.rustflags)
    (put_some (codes "runner") (option_map answer_data a.runner)
    (put_some (codes "linker") (option_map answer_data a.linker) no_members))))
