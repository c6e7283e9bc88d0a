-- Problems as text, in the layout of rustc's diagnostics.
use Rattle.std.specs.Prelude.{ℕ, ◌-◌, Bool, ◌==◌, List, [], ◌∷◌, ◌++◌, codes, decimal, flat_map, length, map, max, replicate, take, Option, Some, None, if◌then◌else◌}
use Rattle.cc2_reports.specs.declared.location.Span.{Span}
use Rattle.cc2_reports.specs.Characters.{first_bytes, visible_line}
use Rattle.cc2_reports.specs.Levels.{colour_of, level_name}
use Rattle.cc2_reports.specs.declared.level.Level.{Level}
use Rattle.cc2_reports.specs.Lints.{level_of, name_of}
use Rattle.cc2_reports.specs.Problems.{Problem}

-- escape sequences of a terminal
abbrev pub blue : List ℕ
blue = 27 ∷ codes "[1;34m"

abbrev pub bold : List ℕ
bold = 27 ∷ codes "[1m"

abbrev pub reset : List ℕ
reset = 27 ∷ codes "[0m"

abbrev pub spaces : ℕ → List ℕ
spaces n = replicate n 32

-- the number of the line at which a problem begins; nothing where no piece is found
abbrev pub number_of : Option Span → List ℕ
number_of None = []
number_of (Some span) = decimal span.start.line

-- how wide the margin is
abbrev pub width_of : Option Span → ℕ
width_of span = max (length (number_of span)) 1

-- a line and a column; nothing where no piece is found
abbrev pub line_and_column : Option Span → List ℕ
line_and_column None = []
line_and_column (Some span) =
    codes ":" ++ (decimal span.start.line ++ (codes ":" ++ decimal span.start.column))

-- a text after a space; nothing where it is empty
abbrev pub after_space : List ℕ → List ℕ
after_space text = if length text == 0 then [] else codes " " ++ text

-- what is printed above a character of the line: a tab or a space
abbrev pub blank_for : ℕ → ℕ
blank_for byte = if byte == 9 then 9 else 32

-- as much space as so many characters of a line take
abbrev pub blanks : ℕ → List ℕ → List ℕ
blanks count line = map blank_for (take count (first_bytes line))

-- how many characters a piece has; one at least
abbrev pub caret_count : Span → ℕ
caret_count span = max (span.end.column - span.start.column) 1

module _ (is_coloured : Bool) where
  -- a text in a colour, where there are colours
  abbrev pub in_colour : List ℕ → List ℕ → List ℕ
  in_colour colour text = if is_coloured then colour ++ (text ++ reset) else text

  -- the level, the lint and the message
  abbrev pub title : Problem → List ℕ
  title p =
      in_colour (colour_of (level_of p.lint)) (level_name (level_of p.lint) ++ (codes "[" ++ (name_of p.lint ++ codes "]")))
      ++ (in_colour bold (codes ": " ++ visible_line p.message) ++ codes "\n")

  -- the file, with the line and the column
  abbrev pub place : ℕ → List ℕ → Option Span → List ℕ
  place width file span =
      spaces width
      ++ (in_colour blue (codes "-->") ++ (codes " " ++ (visible_line file ++ (line_and_column span ++ codes "\n"))))

  -- the margin without a number
  abbrev pub bar : ℕ → List ℕ
  bar width = spaces width ++ (codes " " ++ in_colour blue (codes "|"))

  -- a line with its number, after an empty one
  abbrev pub numbered : List ℕ → List ℕ → List ℕ
  numbered number line =
      bar (length number)
      ++ (codes "\n" ++ (in_colour blue (number ++ codes " |") ++ (after_space line ++ codes "\n")))

  -- a caret below each character of the piece of a line
  abbrev pub marked : ℕ → Level → Span → List ℕ → List ℕ
  marked width level span line =
      bar width
      ++ (codes " " ++ (blanks (span.start.column - 1) line
      ++ (in_colour (colour_of level) (replicate (caret_count span) 94) ++ codes "\n")))

  -- the line of a piece, with the piece marked; nothing where the line isn't quoted
  abbrev pub quoted : Level → Option Span → Option (List ℕ) → List ℕ
  quoted level None line = []
  quoted level (Some span) None = []
  quoted level (Some span) (Some line) =
      numbered (number_of (Some span)) line ++ marked (width_of (Some span)) level span line

  -- the margin and the word before a help
  abbrev pub help_mark : ℕ → List ℕ
  help_mark width =
      spaces width ++ (codes " " ++ (in_colour blue (codes "=") ++ (codes " " ++ in_colour bold (codes "help"))))

  abbrev pub help_line : ℕ → Option (List ℕ) → List ℕ
  help_line width None = []
  help_line width (Some help) = help_mark width ++ (codes ": " ++ (visible_line help ++ codes "\n"))

  -- a problem, with an empty line after it
  abbrev pub problem_text : Problem → List ℕ
  problem_text p =
      title p
      ++ (place (width_of p.span) p.file p.span
      ++ (quoted (level_of p.lint) p.span p.line ++ (help_line (width_of p.span) p.help ++ codes "\n")))

  -- one problem after another
  abbrev pub text_of : List Problem → List ℕ
  text_of ps = flat_map problem_text ps
