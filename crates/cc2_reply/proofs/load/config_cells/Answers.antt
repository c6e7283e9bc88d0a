use Rattle.std.proofs.lemmas.Result.{IfOk-weaker}
use Rattle.cargo_config2.specs.Config.{tables_of}
use Rattle.cc2_resolved_cells.proofs.AllTables.{tables_are}
use Rattle.cc2_reply.proofs.load.config_cells.Goals as goal

pub returns-clause-shown : goal.returns-clause-shown
returns-clause-shown c =
    IfOk-weaker c.write_tables.result _ _ (λ bytes. tables_are (tables_of c.args.config.now)) c.write_tables.ensures.shown
