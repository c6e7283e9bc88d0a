use Rattle.cc2_findings.proofs.Never.{never_true}
use Rattle.cc2_findings.proofs.cfg_key.key_fault.Goals as goal

pub returns-clause-never : goal.returns-clause-never
returns-clause-never c is atoms = never_true c.args.key.now atoms c.judged.result is c.judged.ensures
