use Rattle.std.proofs.Common.{sym, inr, ◌∙◌}
use Rattle.toml.specs.View.{table_view}
use Rattle.cc2_cargo.proofs.dotted.read_override.Goals as goal

pub returns-in-Some-clause-refused : goal.returns-in-Some-clause-refused
returns-in-Some-clause-refused c =
    inr (c.fault_of.ensures c.args.text.now (table_view c.in_ok-table.table, c.in_ok-table.ensures.ok, sym c.in_ok-reason_of.ensures ∙ c.in-Some.is))
