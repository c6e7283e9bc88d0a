use Rattle.std.proofs.Common.{◌∙◌, ap, cond, drop, length, eqb, bytes_eq, false}
use Rattle.std.specs.Prelude.{codes}
use Rattle.std.specs.List.{ends_with}
use Rattle.std.proofs.lemmas.Str.Pattern.{starts_text}
use Rattle.cc2_base.specs.ShownValue.{is_token_name, registries_prefix}
use Rattle.cc2_base.proofs.variable.is_token.Goals as goal

pub returns-in-None : goal.returns-in-None
unfolding is_token_name
returns-in-None c =
    let name = c.args.name.now in
    c.eq.ensures ∙ ap (λ t. cond t (ends_with eqb (drop (length registries_prefix) name)
    (codes "_TOKEN")) (bytes_eq name (codes "CARGO_REGISTRY_TOKEN")))
    (starts_text false registries_prefix name c.in-None.ensures.cases)
