use Rattle.std.proofs.Common.{◌∙◌, ◌++◌, ap, codes, sym}
use Rattle.cc2_program.proofs.Summaries.{lined}
use Rattle.cc2_program.proofs.lint.counted_line.Goals as goal

pub returns : goal.returns
returns c =
    ap (λ v. v.items) c.into_bytes.ensures.value
    ∙ (c.in_ok-format.ensures.ok
    ∙ (ap (λ text. text ++ codes "\n") (c.as_str-parts.ensures.value ∙ c.in_ok-parts.ensures.ok)
    ∙ lined c.args.parts.now (sym c.is_empty.ensures ∙ c.if-is_empty.false)))
