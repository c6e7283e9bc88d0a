use Rattle.std.proofs.Common.{◌≡◌, rules, ◌++◌, true, string_bytes, sym, ◌∙◌}
use Rattle.cc2_cargo.specs.Dotted.{end_of, is_part}
use Rattle.cc2_cargo.proofs.Dotting.{found, not_found}
use Rattle.cc2_cargo.proofs.dotted.after_part.Goals as goal

pub returns-then-branch : goal.returns-then-branch
returns-then-branch c =
    let p = c.args.part in
    let (text, whole) = c.parts.invariant in
    let next = found (end_of p) (is_part p) (string_bytes c.parts.front) c.parts.rest.now c.in-Some.ensures.2 in
    let front : string_bytes c.push_str.new.self ≡ string_bytes c.parts.front ++ c.in-Some.more.now = search rules in
    let passes : is_part p (string_bytes c.parts.front ++ c.in-Some.more.now) ≡ true = search rules in
    search rules

pub parts-preserved : goal.parts-preserved
parts-preserved c =
    let p = c.args.part in
    let (text, whole) = c.parts.invariant in
    let next = found (end_of p) (is_part p) (string_bytes c.parts.front) c.parts.rest.now c.in-Some.ensures.2 in
    (search rules, search rules)

pub returns : goal.returns
returns c =
    let p = c.args.part in
    let (text, whole) = c.parts.invariant in
    sym (whole ∙ not_found (end_of p) (is_part p) (string_bytes c.parts.front) c.parts.rest.now c.in_default.ensures)
