use Rattle.std.proofs.Common.{refl}
use Rattle.cc2_reports.proofs.Uris.{agreeing}
use Rattle.cc2_reports.proofs.uri.escaped.Goals as goal

pub returns : goal.returns
returns c b small = agreeing _ 128 refl b small
