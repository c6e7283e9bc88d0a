use Rattle.std.proofs.Common.{map, string_bytes, Some, option_map, ap, ◌∙◌}
use Rattle.std.proofs.lemmas.Result.{IfOk-weaker}
use Rattle.toml.specs.View.{table_view}
use Rattle.cc2_value.specs.Cells.{file}
use Rattle.cc2_value.specs.Copies.{cell_set}
use Rattle.cc2_de.specs.Config.{config_at}
use Rattle.cc2_lint_settings.specs.Resolving.{IsRefusalAt}
use Rattle.cc2_lint_settings.specs.Unresolved.{IsReadRefusal}
use Rattle.cc2_lint_settings.proofs.Refusals.{read}
use Rattle.cc2_lint_settings.proofs.unresolved_settings.read_refusal.Goals as goal

pub returns-in_ok-config-in-Ok : goal.returns-in_ok-config-in-Ok
returns-in_ok-config-in-Ok c =
    let dir = c.args.directory.now in
    let path = c.args.path.now in
    let keys = map string_bytes c.args.keys.now in
    let ms = table_view c.args.table.now in
    let m = config_at c.in_ok-config-in-Ok.config in
    let (sound, cells) = c.in-Ok.ensures.ok in
    IfOk-weaker c.refusal_at.result (IsRefusalAt dir keys m) (IsReadRefusal dir path keys ms)
    (λ e is. read dir path keys ms m e sound
    (λ p. c.in_ok-config-in-Ok.ensures p ∙ ap (option_map (cell_set (Some (file path)))) (cells p)) is)
    c.refusal_at.ensures
