-- What the errors print, byte by byte.
use Rattle.std.specs.Prelude.{ℕ, ◌-◌, List, [], ◌∷◌, ◌++◌, map, flat_map, codes, decimal}
use Rattle.std.specs.List.{repeat}
use Rattle.std.specs.String.{string_bytes}
use Rattle.cc2_error.specs.declared.cfg_error.Reason.{Reason}
use Rattle.cc2_error.specs.declared.cfg_error.Reason.TheVariants as reason
use Rattle.cc2_error.specs.declared.cfg_error.ParseError.{ParseError}
use Rattle.cc2_error.specs.declared.cfg_error.CfgError.{CfgError}
use Rattle.cc2_error.specs.declared.cfg_error.CfgError.TheVariants as cfg_error

-- a term between backquotes
abbrev pub term_text : List ℕ → List ℕ
term_text term = codes "`" ++ (term ++ codes "`")

-- each term after a comma
abbrev pub others_text : List (List ℕ) → List ℕ
others_text terms = flat_map (λ term. codes ", " ++ term_text term) terms

-- that one of these terms was expected, of which there are two or more
abbrev pub several_text : List (List ℕ) → List ℕ
several_text [] = []
several_text (term ∷ others) = codes "expected one of " ++ (term_text term ++ (others_text others ++ codes " here"))

-- which terms were expected
abbrev pub expected_text : List (List ℕ) → List ℕ
expected_text [] = codes "the term was not expected here"
expected_text (term ∷ []) = codes "expected a " ++ (term_text term ++ codes " here")
expected_text (term ∷ (second ∷ others)) = several_text (term ∷ (second ∷ others))

abbrev pub reason_text : Reason → List ℕ
reason_text (reason.InvalidNot found) = codes "not() takes 1 predicate, found " ++ decimal found
reason_text reason.UnclosedParens = codes "unclosed parens"
reason_text reason.UnopenedParens = codes "unopened parens"
reason_text reason.UnclosedQuotes = codes "unclosed quotes"
reason_text reason.Empty = codes "empty expression"
reason_text (reason.Unexpected terms) = expected_text (map (λ term. term.now) terms.now)
reason_text reason.MultipleRootPredicates = codes "multiple root predicates"

-- as many carets as the span is long, and a space
abbrev pub carets : ℕ → ℕ → List ℕ
carets start end = repeat (end - start) (codes "^") ++ codes " "

-- the mark below a span
abbrev pub mark_below : Reason → ℕ → ℕ → List ℕ
mark_below reason.UnclosedParens start end = codes "- "
mark_below reason.UnclosedQuotes start end = codes "- "
mark_below reason.UnopenedParens start end = codes "^ "
mark_below (reason.InvalidNot found) start end = carets start end
mark_below reason.Empty start end = carets start end
mark_below (reason.Unexpected terms) start end = carets start end
mark_below reason.MultipleRootPredicates start end = carets start end

abbrev pub mark_text : ParseError → List ℕ
mark_text error = mark_below error.reason error.span.start error.span.end

-- the text, a newline, as many spaces as the span's start, the mark, and the reason
abbrev pub parse_error_text : ParseError → List ℕ
parse_error_text error =
    string_bytes error.original ++ (codes "\n" ++ (repeat error.span.start (codes " ") ++ (mark_text error ++ reason_text error.reason)))

abbrev pub cfg_error_text : CfgError → List ℕ
cfg_error_text cfg_error.Memory = codes "out of memory"
cfg_error_text (cfg_error.Parse error) = parse_error_text error
