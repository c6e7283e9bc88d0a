use Rattle.std.proofs.Common.{◌∙◌}
use Rattle.cc2_reports.proofs.Keys.{same_texts}
use Rattle.cc2_reports.proofs.report.are_same_keys.Goals as goal

pub returns : goal.returns
returns c = c.eq.ensures ∙ same_texts c.args.keys.now c.args.others.now
