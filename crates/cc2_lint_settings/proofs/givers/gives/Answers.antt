use Rattle.std.proofs.Common.{◌∙◌, ap}
use Rattle.std.specs.Option.{is_some}
use Rattle.toml.specs.Data.{get}
use Rattle.toml.specs.View.{view}
use Rattle.cc2_findings.proofs.Keys.{is_some-map}
use Rattle.cc2_lint_settings.proofs.givers.gives.Goals as goal

pub returns : goal.returns
returns c =
    c.is_some.ensures ∙ is_some-map (λ x. view x.now) c.get.result ∙ ap is_some c.get.ensures
    ∙ ap (λ key. is_some (get key (view c.args.value.now))) c.key.ensures
