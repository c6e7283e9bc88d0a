use Rattle.cc2_env.specs.Options.{variables_of}
use Rattle.cc2_de.proofs.Environment.{ok_holds, refusal_holds}
use Rattle.cc2_de.proofs.TokensHidden.{config_hidden}
use Rattle.cc2_de.proofs.config.Config.apply_env.Goals as goal

pub returns-clause-ok : goal.returns-clause-ok
returns-clause-ok c =
    ok_holds c.apply_variables-applied.result c.on_ok.result c.apply_variables-applied.new.self _
    c.on_ok.ensures.ok c.on_ok.ensures.refused c.apply_variables-applied.ensures.ok

pub returns-clause-refused : goal.returns-clause-refused
returns-clause-refused c =
    refusal_holds c.apply_variables-applied.result c.on_ok.result c.apply_variables-applied.new.self _
    c.on_ok.ensures.ok c.on_ok.ensures.refused c.apply_variables-applied.ensures.refused

pub returns-clause-tokens : goal.returns-clause-tokens
returns-clause-tokens c =
    config_hidden c.on_ok.result (variables_of c.args.context.now) c.args.self
    (refusal_holds c.apply_variables-applied.result c.on_ok.result c.apply_variables-applied.new.self _
    c.on_ok.ensures.ok c.on_ok.ensures.refused c.apply_variables-applied.ensures.refused)
