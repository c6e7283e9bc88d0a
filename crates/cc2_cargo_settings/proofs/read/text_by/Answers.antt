use Rattle.std.proofs.Common.{Some, string_bytes, ap, ◌∙◌}
use Rattle.toml.specs.Data.{string}
use Rattle.cc2_value.specs.Cells.{variable}
use Rattle.cc2_cargo_settings.specs.Changes.{single_cells}
use Rattle.cc2_cargo_settings.specs.Scalars.{set_at}
use Rattle.cc2_cargo_settings.proofs.read.text_by.Goals as goal

pub returns : goal.returns
returns c =
    c.single.ensures ∙ ap single_cells c.toml_text.ensures
    ∙ ap (λ n. single_cells (set_at (Some (variable n)) (string (string_bytes c.in_ok-val.val)))) c.in_ok-from_str.ensures.ok
    ∙ ap (λ t. single_cells (set_at (Some (variable c.args.name.now)) (string t))) c.in_ok-val.ensures.ok
