use Rattle.std.proofs.Common.{rules, sym, ap, lit<, ◌∙◌, ◌||◌, Some, None}
use Rattle.std.specs.List.{list_any, slice_split}
use Rattle.std.proofs.lemmas.Iterator.Search.{any_from_yields_List}
use Rattle.std.proofs.lemmas.Iterator.Splits.{YieldsList-from_str_split}
use Rattle.std.proofs.lemmas.Str.Pattern.{split_once_first}
use Rattle.cc2_findings.specs.Templates.{is_opening, lacks_variable}
use Rattle.cc2_findings.proofs.Templates.{plain_text, cut_text}
use Rattle.cc2_findings.proofs.template.has_stray_brace.Goals as goal

pub returns-in-None : goal.returns-in-None
returns-in-None c =
    let text = c.args.text.now in
    c.is_closed.ensures ∙ sym (plain_text text (split_once_first 123 text None c.in-None.ensures.cases (lit< tt)))

pub returns-then-is_closed : goal.returns-then-is_closed
returns-then-is_closed c =
    let text = c.args.text.now in
    let behind = c.in-Some.behind.now in
    let cut = split_once_first 123 text (Some (c.in-Some.before, c.in-Some.behind)) c.in-Some.ensures.cases (lit< tt) in
    c.if-is_closed.true ∙ ap (λ b. b || list_any lacks_variable (slice_split is_opening behind)) c.if-is_closed.ensures
    ∙ sym (cut_text text c.in-Some.before.now behind (cut.0, cut.1, cut.2))

pub returns-else-is_closed : goal.returns-else-is_closed
returns-else-is_closed c =
    let text = c.args.text.now in
    let behind = c.in-Some.behind.now in
    let cut = split_once_first 123 text (Some (c.in-Some.before, c.in-Some.behind)) c.in-Some.ensures.cases (lit< tt) in
    any_from_yields_List lacks_variable _ _ c.any.result c.any.ensures.ran
    (YieldsList-from_str_split 123 behind (lit< tt) c.split.ensures.text c.split.ensures.has_more c.split.ensures.pattern)
    (λ x b q k. search rules)
    ∙ ap (λ b. b || list_any lacks_variable (slice_split is_opening behind)) c.if-is_closed.ensures
    ∙ sym (cut_text text c.in-Some.before.now behind (cut.0, cut.1, cut.2))
