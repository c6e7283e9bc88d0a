use Rattle.cc2_value.proofs.Tables.{fields_absent}
use Rattle.cc2_tables.specs.Registries.{registries_fields}
use Rattle.cc2_tables.proofs.registries.RegistriesConfigValue.empty.Goals as goal

pub returns : goal.returns
returns c = fields_absent registries_fields _ c.absent.ensures
