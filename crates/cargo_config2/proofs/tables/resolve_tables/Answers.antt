use Rattle.std.proofs.Common.{◌≡◌, ℕ, Bool, List, ◌∙◌}
use Rattle.std.specs.Option.{is_some}
use Rattle.std.specs.BTreeMap.{get_by_text}
use Rattle.cc2_value.specs.Shown.{fields_at}
use Rattle.cc2_de.specs.Config.{config_fields}
use Rattle.cc2_resolved.specs.Rows.{by_row, rows_at, IsResolved, IsCause}
use Rattle.cc2_resolved.specs.Sites.{site_in}
use Rattle.cc2_resolved_tables.specs.Tables.{tables_rows}
use Rattle.cc2_resolved.proofs.Fields.{table_resolved, row_refused, none_refused, same_aliases, alias_there}
use Rattle.cargo_config2.proofs.tables.resolve_tables.Goals as goal

pub returns-in-Ok-clause-answered : goal.returns-in-Ok-clause-answered
returns-in-Ok-clause-answered c =
    let directory = c.args.directory.now in
    let config = c.args.config.now in
    let look = fields_at config_fields config in
    let shown = rows_at tables_rows c.settle_tables.new.tables in
    let named : List ℕ → Bool = λ n. is_some (get_by_text c.in_ok-aliases.aliases n) in
    let same : (n : List ℕ) → named n ≡ (site_in directory look).is_alias n =
    λ n. c.in_ok-aliases.ensures.ok n ∙ alias_there (get_by_text config.credential_alias n) in
    let is = table_resolved (record { directory = directory; is_alias = named }) look
    c.settle_tables.new.tables tables_rows c.in-Ok.ensures.ok in
    let there = same_aliases (λ a. IsResolved (by_row tables_rows)
    (record { directory = directory; is_alias = a }) look shown) named (site_in directory look).is_alias same is in
    (there, none_refused (by_row tables_rows) (site_in directory look) look shown there)

pub returns-clause-answered : goal.returns-clause-answered
returns-clause-answered c =
    let directory = c.args.directory.now in
    let config = c.args.config.now in
    let look = fields_at config_fields config in
    let named : List ℕ → Bool = λ n. is_some (get_by_text c.in_ok-aliases.aliases n) in
    let same : (n : List ℕ) → named n ≡ (site_in directory look).is_alias n =
    λ n. c.in_ok-aliases.ensures.ok n ∙ alias_there (get_by_text config.credential_alias n) in
    let refused = c.in-Err.refused in
    let cause = row_refused tables_rows (record { directory = directory; is_alias = named }) look
    refused.key.now refused.error c.in-Err.ensures.refused in
    same_aliases (λ a. IsCause (by_row tables_rows) (record { directory = directory; is_alias = a })
    look refused.error) named (site_in directory look).is_alias same cause
