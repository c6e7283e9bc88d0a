use Rattle.std.proofs.Common.{◌++◌, List, ℕ, sym, ap, ◌∙◌}
use Rattle.std.specs.Str.Lines.{lines}
use Rattle.std.proofs.lemmas.Iterator.Splits.{YieldsList-from_lines}
use Rattle.std.proofs.lemmas.Iterator.Consumers.{YieldsList-so_far, YieldsList-turn, YieldsList-end}
use Rattle.cc2_rustc.specs.Versions.{behind}
use Rattle.cc2_rustc.proofs.Behind.{has_it, has_not, at_line, passed_line}
use Rattle.cc2_rustc.proofs.lines.behind.Goals as goal

pub returns-in-Some-strip_prefix : goal.returns-in-Some-strip_prefix
returns-in-Some-strip_prefix c =
    let cut = c.in-Some-strip_prefix.ensures.cases in
    let prefix : List ℕ = c.args.prefix.now in
    let text : List ℕ = c.args.text.now in
    let so_far = YieldsList-so_far (YieldsList-from_lines text cc) c.loop-line.yielded _ c.loop-line.yielded_by in
    let turn = YieldsList-turn (YieldsList-from_lines text cc) c.loop-line.yielded _
    c.loop-line.yielded_by _ _ c.in-Some.line c.in-Some.is c.next.ensures.steps in
    sym (at_line prefix (lines text) c.loop-line.yielded c.in-Some.line so_far turn.0 turn.1 c.loop-line.invariant
    c.in-Some-strip_prefix.rest.now (has_it prefix c.in-Some.line.now _ (cut.1.1 ∙ ap (λ t. prefix ++ t) (sym cut.2))))

pub loop-line-preserved : goal.loop-line-preserved
loop-line-preserved c =
    passed_line c.args.prefix.now c.loop-line.yielded c.in-Some.line c.loop-line.invariant
    (has_not c.args.prefix.now c.in-Some.line.now c.in_default.ensures.cases)

pub returns : goal.returns
returns c =
    let all = YieldsList-end (YieldsList-from_lines c.args.text.now cc) c.loop-line.yielded _
    c.loop-line.yielded_by _ _ c.in-None.is c.next.ensures.steps in
    sym c.loop-line.invariant ∙ ap (behind c.args.prefix.now) all.0
