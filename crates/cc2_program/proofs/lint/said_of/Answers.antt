use Rattle.std.proofs.Common.{◌∙◌, inl, inr, refl, sym}
use Rattle.cc2_error.specs.Causes.{memory, plain}
use Rattle.cc2_program.specs.Lints.{refused}
use Rattle.cc2_program.proofs.Linted.{error_as, error_never, says_found, says_refused, these_found, these_refused}
use Rattle.cc2_program.proofs.lint.said_of.Goals as goal

pub returns-then-is_refused : goal.returns-then-is_refused
returns-then-is_refused c = record {
  found = λ p allowed answered.
      says_refused p allowed c.args.has_summary c.args.linted (sym c.is_refused.ensures ∙ c.if-is_refused.true) answered;
  these = λ p allowed problems answered.
      these_refused c.args.linted p allowed c.args.has_summary problems (sym c.is_refused.ensures ∙ c.if-is_refused.true) answered;
  error = λ refusal by. error_as c.args.linted refusal by;
}

pub returns-in-Ok : goal.returns-in-Ok
returns-in-Ok c = record {
  found = λ p allowed answered.
      says_found p allowed c.args.has_summary c.args.linted c.in-Ok.summary.items
      (sym c.is_refused.ensures ∙ c.if-is_refused.false) c.in-Ok.ensures answered;
  these = λ p allowed problems answered.
      these_found c.args.linted p allowed c.args.has_summary problems c.in-Ok.summary.items
      (sym c.is_refused.ensures ∙ c.if-is_refused.false) c.in-Ok.ensures answered;
  error = λ refusal by. error_never c.args.linted refusal _ (sym c.is_refused.ensures ∙ c.if-is_refused.false) by;
}

pub returns-in-Err : goal.returns-in-Err
returns-in-Err c = record {
  found = λ p allowed answered. refused (plain memory) c.out_of_memory.ensures;
  these = λ p allowed problems answered. inr (plain memory, inl refl, c.out_of_memory.ensures);
  error = λ refusal by. (plain memory, inr refl, c.out_of_memory.ensures);
}
