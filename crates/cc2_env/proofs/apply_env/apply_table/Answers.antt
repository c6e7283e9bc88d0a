use Rattle.cc2_value.specs.Shown.{fields_at}
use Rattle.cc2_env.specs.Options.{variables_of}
use Rattle.cc2_env.proofs.Ranking.{fields_ranked, row_refused}
use Rattle.cc2_env.proofs.apply_env.apply_table.Goals as goal

pub returns-in-Ok-clause-ok : goal.returns-in-Ok-clause-ok
returns-in-Ok-clause-ok g c =
    fields_ranked (variables_of c.args.context.now) c.args.table.now c.apply_each.new.self g.T.Fields.fields
    g.T.ApplyEnv.ranks c.in-Ok.ensures.ok

pub returns-in-Err-clause-refused : goal.returns-in-Err-clause-refused
returns-in-Err-clause-refused g c =
    row_refused (fields_at g.T.Fields.fields) g.T.ApplyEnv.ranks (variables_of c.args.context.now) c.args.table.now
    c.in-Err.refused.key.now c.in-Err.refused.error c.in-Err.ensures.refused
