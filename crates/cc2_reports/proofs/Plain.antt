-- What is printed has no float.
use Rattle.std.proofs.Common.{◌≡◌, ◌∙◌, ℕ, Bool, false, List, [], ◌∷◌, Option, Some, None, filter, map, ap, refl}
use Rattle.std.specs.Prelude.{◌||◌}
use Rattle.cc2_reports.specs.declared.location.Span.{Span}
use Rattle.serde_json.specs.Data.{Data, string}
use Rattle.serde_json.specs.View.{items_of}
use Rattle.serde_json.specs.Written.{has_float, items_have_float, members_have_float}
use Rattle.cc2_reports.specs.Json.{problem_data, problems_data, span_data, text_data}
use Rattle.cc2_reports.specs.Lints.{name_of}
use Rattle.cc2_reports.specs.declared.lint.Lint.{Lint}
use Rattle.cc2_reports.specs.Problems.{Problem}
use Rattle.cc2_reports.specs.Sarif.{occurs, region_member, result_data, results_data, rule_data, rules_among, sarif_data}

neither : {a b : Bool} → a ≡ false → b ≡ false → (a || b) ≡ false
neither {b = b} first second = ap (λ x. x || b) first ∙ second

pub items_plain : {A : Type 0} (f : A → Data) → ((a : A) → has_float (f a) ≡ false) → (xs : List A)
    → items_have_float (items_of (map f xs)) ≡ false
items_plain f each [] = refl
items_plain f each (x ∷ xs) = neither (each x) (items_plain f each xs)

span_plain : (of : Span → ℕ) (span : Option Span) → has_float (span_data of span) ≡ false
span_plain of None = refl
span_plain of (Some span) = refl

text_plain : (text : Option (List ℕ)) → has_float (text_data text) ≡ false
text_plain None = refl
text_plain (Some text) = refl

problem_plain : (p : Problem) → has_float (problem_data p) ≡ false
problem_plain p =
    neither (span_plain (λ s. s.start.column) p.span)
    (neither (span_plain (λ s. s.end.column) p.span)
    (neither (span_plain (λ s. s.end.line) p.span)
    (neither (text_plain p.help)
    (neither (span_plain (λ s. s.start.line) p.span)
    (neither (items_plain string (λ s. refl) p.path) refl)))))

pub problems_plain : (ps : List Problem) → has_float (problems_data ps) ≡ false
problems_plain ps = neither (items_plain problem_data problem_plain ps) refl

rule_plain : (l : Lint) → has_float (rule_data l) ≡ false
rule_plain l = refl

region_plain : (span : Option Span) → members_have_float (region_member span) ≡ false
region_plain None = refl
region_plain (Some span) = refl

result_plain : (p : Problem) → has_float (result_data p) ≡ false
result_plain p = neither (neither (neither (region_plain p.span) refl) refl) refl

pub sarif_plain : (among : List Lint) (ps : List Problem) → has_float (sarif_data (results_data ps) (rules_among among ps)) ≡ false
sarif_plain among ps =
    neither (neither (neither (items_plain result_data result_plain ps)
    (neither (neither (neither (items_plain rule_data rule_plain (filter (λ l. occurs ps (name_of l)) among)) refl) refl) refl)) refl) refl
