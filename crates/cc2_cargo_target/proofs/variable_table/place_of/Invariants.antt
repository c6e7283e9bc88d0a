use Rattle.std.proofs.Common.{◌≡◌, drop, map}
use Rattle.cc2_cargo_settings.specs.EnvVariables.{variable_view}
use Rattle.cc2_cargo_target.specs.VariableTables.{answers_in}
use Rattle.cc2_cargo_target.proofs.variable_table.place_of.Given as goal

-- those left answer as all do
abbrev pub invariant-loop-i : goal.invariant-loop-i
invariant-loop-i l = answers_in (drop l.i l.entries) (map variable_view l.variables) ≡ answers_in l.entries (map variable_view l.variables)
