use Rattle.cc2_env.specs.Options.{variables_of}
use Rattle.cc2_de.proofs.Environment.{config_applied, config_unapplied}
use Rattle.cc2_de.proofs.config.Config.apply_variables.Goals as goal

pub returns-in-Ok-clause-ok : goal.returns-in-Ok-clause-ok
returns-in-Ok-clause-ok c =
    config_applied (variables_of c.args.context.now) c.args.self.now c.apply_table.new.table c.mark.new.self
    c.in-Ok.ensures.ok c.mark.ensures.tables (rw c.overrides.ensures at c.mark.ensures.marks)

pub returns-in-Err-clause-refused : goal.returns-in-Err-clause-refused
returns-in-Err-clause-refused c =
    config_unapplied (variables_of c.args.context.now) c.args.self.now c.in-Err.error c.in-Err.ensures.refused
