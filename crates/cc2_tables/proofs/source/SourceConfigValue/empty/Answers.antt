use Rattle.cc2_value.proofs.Tables.{fields_absent}
use Rattle.cc2_tables.specs.Source.{source_fields}
use Rattle.cc2_tables.proofs.source.SourceConfigValue.empty.Goals as goal

pub returns : goal.returns
returns c = fields_absent source_fields _ c.absent.ensures
