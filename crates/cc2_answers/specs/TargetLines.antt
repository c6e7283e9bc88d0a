-- How the settings of a target are printed.
use Rattle.std.specs.Prelude.{ℕ, List, [], ◌++◌, codes, Option, Some, None}
use Rattle.cc2_value.specs.Cells.{Payload, number, truth, word, command, provider}
use Rattle.cc2_resolved.specs.Answers.{Answer}
use Rattle.cc2_resolved.specs.Answers as answer
use Rattle.cc2_resolved.specs.TargetConfigs.{TargetAnswer}
use Rattle.cc2_cli.specs.CommandLines.{command_lines, texts_lines}
use Rattle.cc2_cli.specs.Lines.{quoted}

-- a text has no place
abbrev pub word_line : List ℕ → List ℕ → List ℕ
word_line key text = key ++ (codes " = " ++ (quoted text ++ codes "\n"))

abbrev pub single_line : List ℕ → Payload → List ℕ
single_line key (word text) = word_line key text
single_line key (number n) = []
single_line key (truth b) = []
single_line key (command array path args) = []
single_line key (provider array p) = []

-- the lines of a setting of a target, which is a text, a command or a list; nothing where there is none
abbrev pub setting_lines : List ℕ → Option Answer → List ℕ
setting_lines key None = []
setting_lines key (Some (answer.single payload)) = single_line key payload
setting_lines key (Some (answer.texts list)) = texts_lines key list
setting_lines key (Some (answer.command c)) = command_lines key c
setting_lines key (Some (answer.provider p)) = []
setting_lines key (Some (answer.providers ps)) = []
setting_lines key (Some (answer.targets ts)) = []
setting_lines key (Some answer.entry) = []
setting_lines key (Some (answer.variable v)) = []

abbrev pub target_lines : TargetAnswer → List ℕ
target_lines a =
    setting_lines (codes "linker") a.linker
    ++ (setting_lines (codes "runner") a.runner
    ++ (setting_lines (codes "rustflags") a.rustflags
    ++ setting_lines (codes "rustdocflags") a.rustdocflags))
