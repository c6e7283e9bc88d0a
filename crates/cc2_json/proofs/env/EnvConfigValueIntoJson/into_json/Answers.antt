use Rattle.cc2_json.proofs.Trees.{env_text}
use Rattle.cc2_json.proofs.env.EnvConfigValueIntoJson.into_json.Goals as goal

pub returns-in_ok-text_json-in-Value : goal.returns-in_ok-text_json-in-Value
returns-in_ok-text_json-in-Value c =
    env_text c.args.form c.args.self c.in-Value.text c.in_ok-text_json-in-Value.field-0 c.in-Value.is c.in_ok-text_json-in-Value.ensures
