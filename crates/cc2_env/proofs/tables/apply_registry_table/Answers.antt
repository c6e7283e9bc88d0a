use Rattle.cc2_value.specs.Shown.{fields_at}
use Rattle.cc2_tables.specs.Registry.{registry_fields}
use Rattle.cc2_env.specs.Options.{variables_of}
use Rattle.cc2_env.specs.Ranks.{registry_rows}
use Rattle.cc2_env.proofs.TokenFaults.{table_hidden}
use Rattle.cc2_env.proofs.tables.apply_registry_table.Goals as goal

pub returns-clause-tokens : goal.returns-clause-tokens
returns-clause-tokens c =
    table_hidden c.apply_table.result (fields_at registry_fields) registry_rows (variables_of c.args.context.now)
    c.args.registry.now c.apply_table.ensures.refused
