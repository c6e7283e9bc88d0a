use Rattle.std.proofs.Common.{codes}
use Rattle.std.proofs.lemmas.Str.Pattern.{ends_text}
use Rattle.cc2_standin.proofs.table.is_windows.Goals as goal

pub returns : goal.returns
returns c = ends_text c.ends_with.result (codes "b/x.json") c.args.target.now c.ends_with.ensures.cases
