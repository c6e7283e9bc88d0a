use Rattle.std.proofs.Common.{◌∙◌}
use Rattle.cc2_cargo_settings.proofs.Numerals.{int64_parsed}
use Rattle.cc2_cargo_settings.proofs.scalar.int64_of_text.Goals as goal

pub returns : goal.returns
returns c = c.ok.ensures.value ∙ int64_parsed c.args.text.now c.parse.result c.parse.ensures.value.0
