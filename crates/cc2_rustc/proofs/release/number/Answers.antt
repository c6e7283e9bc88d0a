use Rattle.std.proofs.Common.{◌∙◌}
use Rattle.cc2_value.proofs.Numerals.{count_parsed}
use Rattle.cc2_rustc.proofs.release.number.Goals as goal

pub returns : goal.returns
returns c = c.ok.ensures.value ∙ count_parsed c.args.text.now c.parse.result c.parse.ensures.value.0
