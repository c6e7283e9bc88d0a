use Rattle.cc2_value.specs.Shown.{fields_at}
use Rattle.cc2_tables.specs.Registries.{registries_fields}
use Rattle.cc2_env.specs.Options.{variables_of}
use Rattle.cc2_env.specs.Ranked.{rows_of}
use Rattle.cc2_env.specs.Ranks.{registries_ranks}
use Rattle.cc2_env.proofs.Ranking.{fields_ranked, row_refused}
use Rattle.cc2_env.proofs.registries.apply_registry.Goals as goal

pub returns-in-Ok-clause-ok : goal.returns-in-Ok-clause-ok
returns-in-Ok-clause-ok c =
    fields_ranked (variables_of c.args.context.now) c.args.registry.now c.apply_settings.new.registry
    registries_fields (rows_of (registries_ranks c.args.name.now)) c.in-Ok.ensures.ok

pub returns-in-Err-clause-refused : goal.returns-in-Err-clause-refused
returns-in-Err-clause-refused c =
    row_refused (fields_at registries_fields) (rows_of (registries_ranks c.args.name.now))
    (variables_of c.args.context.now) c.args.registry.now c.in-Err.refused.key.now c.in-Err.refused.error
    c.in-Err.ensures.refused
