use Rattle.std.proofs.Common.{lit<}
use Rattle.std.proofs.lemmas.Str.Pattern.{split_once_first}
use Rattle.cc2_target.proofs.Finds.{cut_from_first}
use Rattle.cc2_target.proofs.find.cut_at_dot.Goals as goal

pub returns : goal.returns
returns c =
    cut_from_first c.args.text.now c.split_once.result
    (split_once_first 46 c.args.text.now c.split_once.result c.split_once.ensures.cases (lit< tt))
