use Rattle.std.proofs.Common.{ap, ◌∙◌}
use Rattle.cc2_cargo_settings.specs.Changes.{single_cells}
use Rattle.cc2_cargo_settings.proofs.read.text_single.Goals as goal

pub returns : goal.returns
returns c = c.single.ensures ∙ ap single_cells c.toml_text.ensures
