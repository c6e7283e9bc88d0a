use Rattle.std.proofs.Common.{lit<}
use Rattle.std.specs.Prelude.{Some, None, Option, IfNone}
use Rattle.std.proofs.lemmas.Str.Pattern.{strip_prefix_char}
use Rattle.cc2_cargo.proofs.Fronts.{unclosed-no-front, other-no-front}
use Rattle.cc2_cargo.proofs.cfg_token.front.Goals as goal

if_none-map : {A : Type 0} (o : Option A) (P Q : Type 0) → (P → Q) → IfNone o P → IfNone o Q
if_none-map None P Q f p = f p
if_none-map (Some x) P Q f p = tt

pub returns-in-Some-strip_prefix-4-clause-none : goal.returns-in-Some-strip_prefix-4-clause-none
returns-in-Some-strip_prefix-4-clause-none c =
    let whole = strip_prefix_char 34 c.args.text.now (Some c.in-Some-strip_prefix-4.body)
    c.in-Some-strip_prefix-4.ensures.cases (lit< tt) in
    if_none-map c.quoted.result _ _ (λ h. unclosed-no-front c.args.text.now
    c.in-Some-strip_prefix-4.body.now whole h) c.quoted.ensures.none

pub returns-clause-none : goal.returns-clause-none
returns-clause-none c =
    let text = c.args.text.now in
    if_none-map c.word.result _ _ (λ h. other-no-front text
    (strip_prefix_char 61 text None c.in_default.ensures.cases (lit< tt))
    (strip_prefix_char 40 text None c.in_default-strip_prefix.ensures.cases (lit< tt))
    (strip_prefix_char 41 text None c.in_default-strip_prefix-2.ensures.cases (lit< tt))
    (strip_prefix_char 44 text None c.in_default-strip_prefix-3.ensures.cases (lit< tt))
    (strip_prefix_char 34 text None c.in_default-strip_prefix-4.ensures.cases (lit< tt))
    c.in_default-strip_prefix-5.ensures.cases h) c.word.ensures.none
