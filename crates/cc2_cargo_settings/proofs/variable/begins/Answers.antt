use Rattle.std.proofs.Common.{ap, ◌∙◌}
use Rattle.std.proofs.lemmas.Str.Pattern.{starts_text}
use Rattle.std.specs.List.{starts_with}
use Rattle.std.specs.Prelude.{eqb}
use Rattle.cc2_cargo_settings.proofs.variable.begins.Goals as goal

pub returns : goal.returns
returns c =
    starts_text c.starts_with.result c.args.front.now c.as_str.result.now c.starts_with.ensures.cases
    ∙ ap (λ name. starts_with eqb name c.args.front.now) c.as_str.ensures.value
