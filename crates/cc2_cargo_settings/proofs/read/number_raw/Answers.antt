use Rattle.std.proofs.Common.{Some, ap, ◌∙◌}
use Rattle.cc2_cargo_settings.specs.Changes.{single_cells}
use Rattle.cc2_cargo_settings.proofs.read.number_raw.Goals as goal

pub returns-in-Some : goal.returns-in-Some
returns-in-Some c = rw c.in-Some.is (ap Some (c.single.ensures ∙ ap single_cells c.toml_number.ensures))
