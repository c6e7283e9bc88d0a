use Rattle.std.proofs.Common.{ap, ◌∙◌}
use Rattle.cc2_cargo_target.specs.VariableTables.{answers_in}
use Rattle.cc2_cargo_target.proofs.Listing.{answers_pushed}
use Rattle.cc2_cargo_target.proofs.variable_table.VariableTable.add.Goals as goal

pub returns-clause-listed : goal.returns-clause-listed
returns-clause-listed c vs =
    ap (λ es. answers_in es vs) c.in_ok-push.ensures.items
    ∙ answers_pushed c.args.self.now.entries.items (record { variables = c.args.variables; programs = c.args.programs }) vs
