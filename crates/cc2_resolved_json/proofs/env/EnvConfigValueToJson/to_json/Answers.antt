use Rattle.std.proofs.Common.{Some, ap, ◌∙◌, string_bytes}
use Rattle.cc2_leaf.specs.Env.{env_at}
use Rattle.cc2_leaf.specs.declared.env.EnvConfigValue.TheVariants as variable
use Rattle.cc2_resolved.specs.Env.{variable_shown}
use Rattle.cc2_resolved_json.specs.Plain.{plain_at, without_origins}
use Rattle.cc2_resolved_json.proofs.Cells.{if_along, variable_same}
use Rattle.cc2_resolved_json.proofs.env.EnvConfigValueToJson.to_json.Goals as goal

pub returns-clause-shown : goal.returns-clause-shown
returns-clause-shown c =
    let value = c.bare.result in
    let force = c.bare-2.result in
    let relative = c.bare-3.result in
    if_along (without_origins c.args.tokens) (env_at (variable.Table value (Some force) (Some relative))) (plain_at (variable_shown c.args.self.now)) c.into_json.result
    (variable_same c.args.self.now value force relative (ap string_bytes c.bare.ensures.value ∙ c.in_ok-value.ensures.ok ∙ c.as_str.ensures.value)
    c.bare.ensures.nowhere c.bare-2.ensures.value c.bare-2.ensures.nowhere c.bare-3.ensures.value c.bare-3.ensures.nowhere)
    (rw c.without_origins.ensures at c.into_json.ensures)

pub returns-clause-member : goal.returns-clause-member
returns-clause-member c =
    let value = c.bare.result in
    let force = c.bare-2.result in
    let relative = c.bare-3.result in
    if_along (without_origins c.args.tokens) (env_at (variable.Table value (Some force) (Some relative))) (plain_at (variable_shown c.args.self.now)) c.into_json.result
    (variable_same c.args.self.now value force relative (ap string_bytes c.bare.ensures.value ∙ c.in_ok-value.ensures.ok ∙ c.as_str.ensures.value)
    c.bare.ensures.nowhere c.bare-2.ensures.value c.bare-2.ensures.nowhere c.bare-3.ensures.value c.bare-3.ensures.nowhere)
    (rw c.without_origins.ensures at c.into_json.ensures)
