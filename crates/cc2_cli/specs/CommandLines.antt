-- How a command and the host are printed.
use Rattle.std.specs.Prelude.{ℕ, ◌+◌, List, [], ◌∷◌, ◌++◌, codes}
use Rattle.cc2_error.specs.Commands.{Command}
use Rattle.cc2_cli.specs.Lines.{quoted, place}

-- the line of a text at the place n
abbrev pub text_line : List ℕ → ℕ → List ℕ → List ℕ
text_line key n text = key ++ (place n ++ (codes " = " ++ (quoted text ++ codes "\n")))

-- a line for each text, with its place from n
abbrev pub text_lines : List ℕ → ℕ → List (List ℕ) → List ℕ
text_lines key n [] = []
text_lines key n (text ∷ texts) = text_line key n text ++ text_lines key (n + 1) texts

-- a line for each text, or one that says that there is none
abbrev pub texts_lines : List ℕ → List (List ℕ) → List ℕ
texts_lines key [] = key ++ codes " = []\n"
texts_lines key (text ∷ texts) = text_lines key 0 (text ∷ texts)

-- the program at the place 0, and its arguments after it
abbrev pub command_lines : List ℕ → Command → List ℕ
command_lines key command = text_lines key 0 (command.program ∷ command.args)

abbrev pub rustc_lines : Command → List ℕ
rustc_lines command = command_lines (codes "rustc") command

-- the line of the host
abbrev pub host_line : List ℕ → List ℕ
host_line host = codes "host = " ++ (quoted host ++ codes "\n")
