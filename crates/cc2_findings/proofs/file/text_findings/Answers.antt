use Rattle.std.proofs.Common.{inr, sym, ◌∙◌}
use Rattle.std.proofs.lemmas.Bool.{false≢true}
use Rattle.cc2_findings.proofs.file.text_findings.Goals as goal

pub returns-in_ok-fault-in-Err : goal.returns-in_ok-fault-in-Err
returns-in_ok-fault-in-Err c = inr (
  c.in-Err.ensures.refused (λ is. false≢true (sym c.if-is_memory.false ∙ c.is_memory.ensures.1 is)),
  (c.in_ok-fault-in-Err.fault, c.alone.ensures),
)
