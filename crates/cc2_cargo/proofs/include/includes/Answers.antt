use Rattle.std.proofs.Common.{codes}
use Rattle.toml.proofs.Views.{table_get}
use Rattle.cc2_cargo.proofs.include.includes.Goals as goal

pub returns-clause-ok : goal.returns-clause-ok
returns-clause-ok c = rw (table_get c.get.result (codes "include") c.args.table.now.entries c.get.ensures.value) at c.listed.ensures.ok

pub returns-clause-refused : goal.returns-clause-refused
returns-clause-refused c = rw (table_get c.get.result (codes "include") c.args.table.now.entries c.get.ensures.value) at c.listed.ensures.refused
