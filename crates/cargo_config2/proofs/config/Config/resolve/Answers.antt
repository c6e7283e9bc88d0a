use Rattle.std.proofs.Common.{refl, sym, ap, subst, ◌∙◌, inl, inr}
use Rattle.cc2_error.specs.Causes.{refusal_of}
use Rattle.cc2_value.specs.Shown.{fields_at, map_at}
use Rattle.cc2_target_table.specs.Target.{target_at}
use Rattle.cc2_de.specs.Config.{config_at, config_fields, marks_at}
use Rattle.cc2_resolved.specs.Rows.{by_row, rows_at, IsResolved}
use Rattle.cc2_resolved.specs.Sites.{site_in}
use Rattle.cc2_resolved_tables.specs.Tables.{tables_rows}
use Rattle.cc2_resolved_tables.specs.declared.tables.Tables.{Tables}
use Rattle.cc2_resolved.proofs.Sites.{resolved_alike, refused_alike}
use Rattle.cargo_config2.specs.Resolution.{directory_of}
use Rattle.cargo_config2.proofs.config.Config.resolve.Goals as goal

pub returns-in-Ok : goal.returns-in-Ok
returns-in-Ok c =
    let config = c.args.configured.config in
    let directory = directory_of c.args.configured in
    let (is, free) = rw c.current_dir.ensures at c.in-Ok.ensures.answered in
    let tables = resolved_alike tables_rows directory (fields_at config_fields config)
    (config_at config) (λ k p. refl) (rows_at tables_rows c.in-Ok.tables) is in
    let target = ap (λ l. l.target) c.new-in-Ok.ensures.loaded ∙ c.replace.ensures.value ∙ c.in-Ok.ensures.target in (
      record {
        cells = record {
          tables = subst (λ (t : Tables). IsResolved (by_row tables_rows)
              (site_in directory (config_at config)) (config_at config) (rows_at tables_rows t))
              (sym c.new-in-Ok.ensures.tables) tables;
          targets = λ p. ap (λ t. map_at target_at t p) target;
          marks = ap (λ l. marks_at l.flags_overridden l.doc_flags_overridden)
              c.new-in-Ok.ensures.loaded ∙ ap (λ m. marks_at m.0 m.1) c.overrides-flags_overridden.ensures;
        };
        context = ap (λ l. l.context) c.new-in-Ok.ensures.loaded;
        nothing_kept = c.new-in-Ok.ensures.nothing_kept;
        no_targets = c.new-in-Ok.ensures.no_targets;
      },
      λ refusal refused. free refusal (refused_alike tables_rows directory (config_at config)
          (fields_at config_fields config) (λ k p. refl) refusal refused),
    )

pub returns-in-Err : goal.returns-in-Err
returns-in-Err c =
    let config = c.args.configured.config in
    elim (rw c.current_dir.ensures at c.in-Err.ensures.answered) [
      | inl wants ↦ inl wants
      | inr refused ↦ inr (refused_alike tables_rows (directory_of c.args.configured)
          (fields_at config_fields config) (config_at config) (λ k p. refl) (refusal_of c.in-Err.error) refused)
    ]
