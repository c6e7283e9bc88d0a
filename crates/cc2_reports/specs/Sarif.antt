-- Problems as SARIF 2.1.0.
use Rattle.std.specs.Prelude.{ℕ, Bool, List, [], ◌∷◌, ◌++◌, bytes_eq, codes, filter, map, Option, Some, None}
use Rattle.std.specs.List.{list_any}
use Rattle.cc2_reports.specs.declared.location.Span.{Span}
use Rattle.cc2_reports.specs.Levels.{level_name}
use Rattle.cc2_reports.specs.Lints.{level_of, lints, name_of, rule_of}
use Rattle.cc2_reports.specs.Problems.{Problem}
use Rattle.cc2_reports.specs.declared.level.Level.{Level}
use Rattle.cc2_reports.specs.declared.lint.Lint.{Lint}
use Rattle.cc2_reports.specs.Uris.{uri_of}
use Rattle.serde_json.specs.Data.{Data, Members, no_members, member, number, string, array, object, unsigned}
use Rattle.serde_json.specs.View.{items_of}
use Rattle.serde_json.specs.Written.{compact_text}

-- an object with a text
abbrev pub text_object : List ℕ → Data
text_object text = object (member (codes "text") (string text) no_members)

-- a lint as a rule
abbrev pub rule_data : Lint → Data
rule_data l =
    object (member (codes "defaultConfiguration") (object (member (codes "level") (string (level_name (level_of l))) no_members))
    (member (codes "id") (string (name_of l))
    (member (codes "shortDescription") (text_object (rule_of l).about) no_members)))

-- one of the problems is of this lint
abbrev pub occurs : List Problem → List ℕ → Bool
occurs ps name = list_any (λ p. bytes_eq (name_of p.lint) name) ps

-- those of these lints that occur, each as a rule
abbrev pub rules_among : List Lint → List Problem → Data
rules_among among ps = array (items_of (map rule_data (filter (λ l. occurs ps (name_of l)) among)))

-- the message, and the help in a line of its own
abbrev pub message_of : List ℕ → Option (List ℕ) → List ℕ
message_of message None = message
message_of message (Some help) = message ++ (codes "\nhelp: " ++ help)

abbrev pub region_data : Span → Data
region_data span =
    object (member (codes "endColumn") (number (unsigned span.end.column))
    (member (codes "endLine") (number (unsigned span.end.line))
    (member (codes "startColumn") (number (unsigned span.start.column))
    (member (codes "startLine") (number (unsigned span.start.line)) no_members))))

abbrev pub region_member : Option Span → Members
region_member None = no_members
region_member (Some span) = member (codes "region") (region_data span) no_members

-- the file, and the piece of it where that is found
abbrev pub place_data : List ℕ → Option Span → Data
place_data uri span =
    object (member (codes "artifactLocation") (object (member (codes "uri") (string uri) no_members))
    (region_member span))

abbrev pub location_data : List ℕ → Option Span → Data
location_data file span = place_data (uri_of file) span

abbrev pub result_with : Level → List ℕ → Data → List ℕ → Data
result_with level name place message =
    object (member (codes "level") (string (level_name level))
    (member (codes "locations")
    (array (items_of (object (member (codes "physicalLocation") place no_members) ∷ [])))
    (member (codes "message") (text_object message)
    (member (codes "ruleId") (string name) no_members))))

abbrev pub result_data : Problem → Data
result_data p = result_with (level_of p.lint) (name_of p.lint) (location_data p.file p.span) (message_of p.message p.help)

-- the program that reports, with its rules
abbrev pub driver_data : Data → Data
driver_data rules =
    object (member (codes "name") (string (codes "cargo-config2"))
    (member (codes "rules") rules
    (member (codes "version") (string (codes "1.1.0")) no_members)))

abbrev pub tool_data : Data → Data
tool_data rules = object (member (codes "driver") (driver_data rules) no_members)

-- one run, with these results and these rules
abbrev pub run_data : Data → Data → Data
run_data results rules =
    object (member (codes "columnKind") (string (codes "unicodeCodePoints"))
    (member (codes "results") results
    (member (codes "tool") (tool_data rules) no_members)))

abbrev pub sarif_data : Data → Data → Data
sarif_data results rules =
    object (member (codes "$schema") (string (codes "https://json.schemastore.org/sarif-2.1.0.json"))
    (member (codes "runs") (array (items_of (run_data results rules ∷ [])))
    (member (codes "version") (string (codes "2.1.0")) no_members)))

abbrev pub results_data : List Problem → Data
results_data ps = array (items_of (map result_data ps))

-- the text in one line: the problems, and the lints that occur in the order of their names
abbrev pub sarif_text : List Problem → List ℕ
sarif_text ps = compact_text (sarif_data (results_data ps) (rules_among lints ps)) ++ codes "\n"
