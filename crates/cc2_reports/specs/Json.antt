-- Problems as JSON.
use Rattle.std.specs.Prelude.{ℕ, List, ◌++◌, codes, map, Option, Some, None}
use Rattle.cc2_reports.specs.declared.location.Span.{Span}
use Rattle.cc2_reports.specs.Levels.{level_name}
use Rattle.cc2_reports.specs.Lints.{level_of, name_of}
use Rattle.cc2_reports.specs.Problems.{Problem}
use Rattle.serde_json.specs.Data.{Data, no_members, member, null, number, string, array, object, unsigned}
use Rattle.serde_json.specs.View.{items_of}
use Rattle.serde_json.specs.Written.{compact_text}

-- a list of texts
abbrev pub texts_data : List (List ℕ) → Data
texts_data texts = array (items_of (map string texts))

-- a text; null where there is none
abbrev pub text_data : Option (List ℕ) → Data
text_data None = null
text_data (Some text) = string text

-- a number of a piece; null where no piece is found
abbrev pub span_data : (Span → ℕ) → Option Span → Data
span_data of None = null
span_data of (Some span) = number (unsigned (of span))

-- a problem: an object with its keys in byte order
abbrev pub problem_with : Problem → Data → Data → Data → Data → Data → Data → Data
problem_with p line column end_line end_column path help =
    object (member (codes "column") column
    (member (codes "endColumn") end_column
    (member (codes "endLine") end_line
    (member (codes "file") (string p.file)
    (member (codes "help") help
    (member (codes "kind") (string (name_of p.lint))
    (member (codes "level") (string (level_name (level_of p.lint)))
    (member (codes "line") line
    (member (codes "message") (string p.message)
    (member (codes "path") path no_members))))))))))

-- with the lines and columns of the piece, the end column being that after its last character
abbrev pub problem_data : Problem → Data
problem_data p =
    problem_with p (span_data (λ s. s.start.line) p.span) (span_data (λ s. s.start.column) p.span)
    (span_data (λ s. s.end.line) p.span) (span_data (λ s. s.end.column) p.span)
    (texts_data p.path) (text_data p.help)

-- an object of the list of problems
abbrev pub problems_data : List Problem → Data
problems_data ps = object (member (codes "findings") (array (items_of (map problem_data ps))) no_members)

-- its text in one line
abbrev pub json_text : List Problem → List ℕ
json_text ps = compact_text (problems_data ps) ++ codes "\n"
