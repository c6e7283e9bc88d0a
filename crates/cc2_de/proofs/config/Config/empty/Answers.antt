use Rattle.cc2_de.proofs.Configs.{config_absent}
use Rattle.cc2_de.proofs.config.Config.empty.Goals as goal

pub returns : goal.returns
returns c = config_absent c.unset.result c.unset.ensures.tables c.unset.ensures.flags c.unset.ensures.doc_flags
