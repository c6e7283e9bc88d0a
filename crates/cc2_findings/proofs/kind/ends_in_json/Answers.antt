use Rattle.std.specs.Prelude.{codes}
use Rattle.std.proofs.lemmas.Str.Pattern.{ends_text}
use Rattle.cc2_findings.proofs.kind.ends_in_json.Goals as goal

pub returns : goal.returns
returns c = ends_text c.ends_with.result (codes ".json") c.args.text.now c.ends_with.ensures.cases
