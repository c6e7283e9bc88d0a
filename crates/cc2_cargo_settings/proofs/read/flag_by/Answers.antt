use Rattle.std.proofs.Common.{Some, ap, ◌∙◌}
use Rattle.toml.specs.Data.{boolean}
use Rattle.cc2_value.specs.Cells.{variable}
use Rattle.cc2_cargo_settings.specs.Changes.{single_cells}
use Rattle.cc2_cargo_settings.specs.Scalars.{set_at}
use Rattle.cc2_cargo_settings.proofs.read.flag_by.Goals as goal

pub returns : goal.returns
returns c =
    c.single.ensures ∙ ap single_cells c.toml_flag.ensures
    ∙ ap (λ n. single_cells (set_at (Some (variable n)) (boolean c.args.val))) c.in_ok-from_str.ensures.ok
