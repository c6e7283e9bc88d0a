use Rattle.std.proofs.Common.{◌∙◌, ap}
use Rattle.std.specs.Option.{is_some}
use Rattle.toml.specs.View.{view}
use Rattle.cc2_findings.proofs.Keys.{is_some-map}
use Rattle.cc2_findings.proofs.kind.has_key.Goals as goal

pub returns : goal.returns
returns c =
    c.is_some.ensures ∙ is_some-map (λ x. view x.now) c.member.result ∙ ap is_some c.member.ensures
