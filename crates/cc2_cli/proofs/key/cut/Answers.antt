use Rattle.std.proofs.lemmas.Str.Pattern.{split_parts}
use Rattle.cc2_cli.proofs.key.cut.Goals as goal

pub returns : goal.returns
returns c = split_parts c.args.mark c.args.text.now c.split_once.result c.split_once.ensures.cases c.requires
