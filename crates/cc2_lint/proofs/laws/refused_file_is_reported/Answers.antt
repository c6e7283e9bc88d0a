use Rattle.cc2_lint.proofs.Refused.{never_silent}
use Rattle.cc2_lint.proofs.laws.refused_file_is_reported.Goals as goal

pub returns : goal.returns
returns c = never_silent
