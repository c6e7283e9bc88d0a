use Rattle.std.proofs.Common.{◌≡◌, ◌==◌, [], None, Ok, Err, length, map, string_bytes, sym, ap, ◌∙◌, arith}
use Rattle.std.proofs.lemmas.Grind.{common_steps}
use Rattle.cc2_error.proofs.Refused.{answered_exit}
use Rattle.cc2_env.specs.CommandLine.{override_of}
use Rattle.cc2_env.specs.Options.{overrides_of}
use Rattle.cc2_de.specs.Config.{config_at}
use Rattle.cc2_de.specs.Overrides.{IsOver, IsOverCause}
use Rattle.cc2_de.proofs.Over.{none_given, over_as, stays, unlaid, within, laid_merged, laid_unmerged}
use Rattle.cc2_de.proofs.config.Config.apply_overrides.Goals as goal

pub returns-then-is_empty : goal.returns-then-is_empty
returns-then-is_empty g c fs told =
    stays fs (string_bytes c.args.context.now.current_dir) (overrides_of c.args.context.now) c.args.self
    (none_given c.args.context.now.command_line.items
    (ap (λ list. length list == 0) (sym c.command_line-overrides.ensures) ∙ sym c.is_empty.ensures ∙ c.if-is_empty.true))

pub returns-in_err-layers : goal.returns-in_err-layers
returns-in_err-layers g c fs told =
    let dir = c.current_dir.result.now in
    let os = map override_of c.command_line-overrides.result.now in
    over_as fs dir (string_bytes c.args.context.now.current_dir) os (overrides_of c.args.context.now) c.current_dir.ensures
    (ap (map override_of) c.command_line-overrides.ensures) c.from_residual.result (config_at c.args.self)
    (answered_exit config_at c.from_residual.result (IsOver fs dir os (config_at c.args.self))
    (IsOverCause fs dir os (config_at c.args.self)) _ c.from_residual.ensures.1
    (unlaid fs dir os c.args.self c.read_overrides-read.result c.laid_over.result _ c.in_err-layers.was
    (record { ok = c.laid_over.ensures.ok; refused = c.laid_over.ensures.refused }) c.laid_over.ensures.memory
    (c.read_overrides-read.ensures.refused fs told)))

pub over_merging-requires : goal.over_merging-requires
over_merging-requires g c =
    let w = c.in-Err-Mixed in
    within (λ path. None) [] [] c.args.self c.read_overrides-read.result c.laid_over.result c.in_ok-layers.layers c.in_ok-layers.was
    (record { ok = c.laid_over.ensures.ok; refused = c.laid_over.ensures.refused }) w.place
    (length c.command_line-overrides.result.now) w.error c.read_overrides-read.ensures.counted
    (rw w.field-0-is at w.ensures.refused)

pub returns-in-Ok : goal.returns-in-Ok
returns-in-Ok g c fs told =
    let dir = c.current_dir.result.now in
    let os = map override_of c.command_line-overrides.result.now in
    over_as fs dir (string_bytes c.args.context.now.current_dir) os (overrides_of c.args.context.now) c.current_dir.ensures
    (ap (map override_of) c.command_line-overrides.ensures) (Ok c.in-Ok.config) (config_at c.args.self)
    (laid_merged fs dir os c.args.self c.read_overrides-read.result c.laid_over.result c.in_ok-layers.layers c.in_ok-layers.was
    (record { ok = c.laid_over.ensures.ok; refused = c.laid_over.ensures.refused }) (c.read_overrides-read.ensures.ok fs told)
    c.in-Ok.config c.in-Ok.ensures.ok)

pub returns-in-Err-Mixed : goal.returns-in-Err-Mixed
returns-in-Err-Mixed g c fs told =
    let w = c.in-Err-Mixed in
    let dir = c.current_dir.result.now in
    let list = c.command_line-overrides.result.now in
    let os = map override_of list in
    let counted : length list ≡ length os = grind (arith, common_steps) in
    over_as fs dir (string_bytes c.args.context.now.current_dir) os (overrides_of c.args.context.now) c.current_dir.ensures
    (ap (map override_of) c.command_line-overrides.ensures) (Err c.over_merging.result) (config_at c.args.self)
    (laid_unmerged fs dir os c.args.self c.read_overrides-read.result c.laid_over.result c.in_ok-layers.layers c.in_ok-layers.was
    (record { ok = c.laid_over.ensures.ok; refused = c.laid_over.ensures.refused }) (c.read_overrides-read.ensures.ok fs told)
    w.place (length list) w.error _ counted (rw w.field-0-is at w.ensures.refused)
    c.over_merging.ensures)
