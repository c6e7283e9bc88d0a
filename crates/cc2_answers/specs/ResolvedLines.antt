-- How the resolved table `build` is printed.
use Rattle.std.specs.Prelude.{ℕ, List, [], ◌++◌, codes, flat_map, map, Option, Some, None}
use Rattle.cc2_cli.specs.CommandLines.{command_lines, texts_lines}
use Rattle.cc2_cli.specs.Lines.{payload_text}
use Rattle.cc2_resolved.specs.Targets.{command_text}
use Rattle.cc2_resolved_tables.specs.Build.{build_rows}
use Rattle.cc2_resolved_tables.specs.declared.build.BuildConfig.{BuildConfig}
use Rattle.cc2_resolved.specs.Answers.{Answer}
use Rattle.cc2_resolved.specs.Answers as answer
use Rattle.cc2_resolved.specs.Rows.{Row}

-- the line of a value
abbrev pub value_line : List ℕ → List ℕ → List ℕ
value_line key value = key ++ (codes " = " ++ (value ++ codes "\n"))

-- the lines of what a table shows at a key; nothing where it shows nothing there. A table `build` shows a number, a truth
-- value, a text, a list of texts or of targets
abbrev pub answer_lines : List ℕ → Option Answer → List ℕ
answer_lines key None = []
answer_lines key (Some (answer.single payload)) = value_line key (payload_text payload)
answer_lines key (Some (answer.texts list)) = texts_lines key list
answer_lines key (Some (answer.targets ts)) = texts_lines key (map command_text ts)
answer_lines key (Some (answer.command c)) = command_lines key c
answer_lines key (Some (answer.provider p)) = []
answer_lines key (Some (answer.providers ps)) = []
answer_lines key (Some answer.entry) = []
answer_lines key (Some (answer.variable v)) = []

-- the lines of what a table shows at a row's key, which comes after the name of the table
abbrev pub row_lines : {A : Type 0} → List ℕ → A → Row A → List ℕ
row_lines name table row = answer_lines (name ++ row.key) (row.shows table [])

-- the lines of the table `build`: those of each field, in the order of the fields
abbrev pub resolved_lines : BuildConfig → List ℕ
resolved_lines build = flat_map (row_lines (codes "build.") build) build_rows
