use Rattle.std.specs.Prelude.{codes}
use Rattle.std.proofs.lemmas.Str.Pattern.{ends_text}
use Rattle.cc2_lint.proofs.load.is_old_name.Goals as goal

pub returns : goal.returns
returns c = ends_text c.ends_with.result (codes "/config") c.args.name.now c.ends_with.ensures.cases
