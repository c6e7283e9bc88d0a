use Rattle.std.proofs.Common.{◌≡◌, cond, Option, Some, None, refl, ap, ◌∙◌, sym, subst}
use Rattle.std.proofs.lemmas.Result.{on_ok_weaker, err_from_is_err_and}
use Rattle.std.specs.BTreeMap.{get_by_text}
use Rattle.std.specs.Str.{bytes_eq}
use Rattle.std.specs.Option.{option_copied_mut}
use Rattle.cc2_value.proofs.Found.{after_insert, after_write}
use Rattle.cc2_value.specs.Shown.{option_at, fields_at}
use Rattle.cc2_tables.specs.Registries.{registries_fields}
use Rattle.cc2_tables.specs.declared.registries.RegistriesConfigValue.{RegistriesConfigValue}
use Rattle.cc2_env.specs.Options.{variables_of}
use Rattle.cc2_env.specs.Ranked.{IsRanked, by_field, rows_of}
use Rattle.cc2_env.specs.Ranks.{registries_ranks}
use Rattle.cc2_env.proofs.Members.{field_cause}
use Rattle.cc2_env.proofs.Registering.{registry_cause}
use Rattle.cc2_env.proofs.registries.apply_entry.Goals as goal

pub returns-in_err-apply_registry-in-Some-clause-refused : goal.returns-in_err-apply_registry-in-Some-clause-refused
returns-in_err-apply_registry-in-Some-clause-refused c =
    let vars = variables_of c.args.context.now in
    let n = c.args.name.now in
    let p = err_from_is_err_and c.from_residual.result c.from_residual.ensures.1 in
    rw (p.1, p.2) (registry_cause vars c.args.registries.now n _
    (field_cause vars (fields_at registries_fields) (registries_ranks n) _
    _ c.in_err-apply_registry-in-Some.ensures.refused))

pub returns-in_err-registry-in-None-clause-refused : goal.returns-in_err-registry-in-None-clause-refused
returns-in_err-registry-in-None-clause-refused c =
    let vars = variables_of c.args.context.now in
    let n = c.args.name.now in
    let p = err_from_is_err_and c.from_residual-in_err-registry-in-None.result
    c.from_residual-in_err-registry-in-None.ensures.1 in
    rw (p.1, p.2) (registry_cause vars c.args.registries.now n _
    (field_cause vars (option_at (fields_at registries_fields)) (registries_ranks n) None
    _ c.in_err-registry-in-None.ensures.refused))

pub returns-in_ok-apply_registry-in-Some-clause-ok : goal.returns-in_ok-apply_registry-in-Some-clause-ok
returns-in_ok-apply_registry-in-Some-clause-ok c =
    let vars = variables_of c.args.context.now in
    let m = c.args.registries.now in
    let n = c.args.name.now in
    let w : RegistriesConfigValue = c.apply_registry.new.registry in
    let got : get_by_text m n ≡ Some c.in-Some.registry.now =
    sym c.get_mut.ensures.value ∙ ap option_copied_mut c.in-Some.is in
    let written = c.get_mut.follows.holds w in (
      w,
      after_write n w m (c.get_mut.follows.lender w) (written.3 (rw got refl)),
      subst (λ (o : Option RegistriesConfigValue). IsRanked (option_at (fields_at registries_fields))
          (by_field (rows_of (registries_ranks n))) vars o (Some w)) (sym got)
          c.in_ok-apply_registry-in-Some.ensures.ok,
    )

pub returns-in_ok-registry-in-None-clause-ok : goal.returns-in_ok-registry-in-None-clause-ok
returns-in_ok-registry-in-None-clause-ok c =
    let vars = variables_of c.args.context.now in
    let m = c.args.registries.now in
    let n = c.args.name.now in
    let w : RegistriesConfigValue = c.in_ok-registry-in-None.registry in
    let key = c.in_ok-key-in-None.key in
    let got : get_by_text m n ≡ None = sym c.get_mut.ensures.value ∙ ap option_copied_mut c.in-None.is in
    let updates = rw c.get_mut.follows.holds-at-none at c.put.ensures.updates in
    on_ok_weaker c.put.result (λ u. (
      w,
      λ k. after_insert key w m c.put.new.map u k ∙ ap (λ q. cond (bytes_eq q k) (Some w) (get_by_text m k))
          c.in_ok-key-in-None.ensures.ok,
      subst (λ (o : Option RegistriesConfigValue). IsRanked (option_at (fields_at registries_fields))
          (by_field (rows_of (registries_ranks n))) vars o (Some w)) (sym got)
          c.in_ok-registry-in-None.ensures.ok,
    )) updates
