use Rattle.std.proofs.Common.{None}
use Rattle.std.proofs.lemmas.Result.{err_from_is_err_and}
use Rattle.cc2_value.specs.Shown.{option_at, fields_at}
use Rattle.cc2_tables.specs.Registries.{registries_fields}
use Rattle.cc2_env.specs.Options.{variables_of}
use Rattle.cc2_env.specs.Ranks.{registries_ranks}
use Rattle.cc2_env.proofs.Members.{field_cause, of_field_cause, member_made}
use Rattle.cc2_env.proofs.registries.new_registry.Goals as goal

pub returns-in_err-apply_registry-clause-refused : goal.returns-in_err-apply_registry-clause-refused
returns-in_err-apply_registry-clause-refused c =
    let vars = variables_of c.args.context.now in
    let n = c.args.name.now in
    let p = err_from_is_err_and c.from_residual.result c.from_residual.ensures.1 in
    rw (p.1, p.2) (of_field_cause vars (option_at (fields_at registries_fields)) (registries_ranks n) None _
    (field_cause vars (fields_at registries_fields) (registries_ranks n) _ _ c.in_err-apply_registry.ensures.refused))

pub returns-clause-ok : goal.returns-clause-ok
returns-clause-ok c =
    member_made (variables_of c.args.context.now) registries_fields (registries_ranks c.args.name.now)
    c.empty-registry.result c.apply_registry.new.registry c.empty-registry.ensures c.in_ok-apply_registry.ensures.ok
