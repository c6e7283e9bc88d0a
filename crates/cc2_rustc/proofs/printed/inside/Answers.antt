use Rattle.std.proofs.Common.{lit<, sym, None, Some}
use Rattle.std.proofs.lemmas.Str.Pattern.{strip_prefix_char, strip_suffix_char}
use Rattle.cc2_rustc.proofs.Quotes.{inside-none, inside-ends}
use Rattle.cc2_rustc.proofs.printed.inside.Goals as goal

pub returns-in_default : goal.returns-in_default
returns-in_default c =
    let value = c.args.value.now in
    sym (inside-none value (strip_prefix_char 34 value None c.in_default.ensures.cases (lit< tt)))

pub returns : goal.returns
returns c =
    let value = c.args.value.now in
    let rest = c.in-Some.rest in
    let found = c.strip_suffix.result in
    let whole = strip_prefix_char 34 value (Some rest) c.in-Some.ensures.cases (lit< tt) in
    let ends = strip_suffix_char 34 rest.now found c.strip_suffix.ensures.cases (lit< tt) in
    inside-ends value rest.now found whole ends
