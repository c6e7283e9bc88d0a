use Rattle.std.proofs.lemmas.Result.{err_from_is_err_and}
use Rattle.std.proofs.Common.{◌≡◌, Option, refl, sym, ap, subst, ◌∙◌}
use Rattle.std.specs.Option.{unwrap_or}
use Rattle.cc2_error.specs.declared.error.Error.{Error}
use Rattle.cc2_value.specs.Gathered.{IsUngathered}
use Rattle.cc2_target_table.specs.Target.{target_at}
use Rattle.cc2_target_table.proofs.Targets.{target_gathered, target_refused, target_field_refused}
use Rattle.cc2_target_table.proofs.target.merge.TargetConfigMergeFrom.gather.Goals as goal

pub returns-in_err-weaker-clause-refused : goal.returns-in_err-weaker-clause-refused
returns-in_err-weaker-clause-refused c =
    let p = err_from_is_err_and c.from_residual.result c.from_residual.ensures.1 in
    rw (p.1, p.2) (target_field_refused c.args.self.now c.args.low.now _ c.in_err-weaker.ensures.refused)

pub returns-then-gather_nested-clause-ok : goal.returns-then-gather_nested-clause-ok
returns-then-gather_nested-clause-ok c =
    target_gathered c.args.self.now c.args.low.now _ c.in_ok-weaker.ensures.fields
    (rw (c.in_ok-weaker.ensures.nested, c.in_ok-weaker.ensures.weaker) at (c.if-gather_nested.ensures.ok refl))

pub returns-clause-refused : goal.returns-clause-refused
returns-clause-refused c =
    let told = rw (c.in_ok-weaker.ensures.nested, c.in_ok-weaker.ensures.weaker) at
    (c.if-gather_nested.ensures.refused refl) in
    let is : c.unwrap_or.result ≡ told.0 = c.unwrap_or.ensures ∙
    ap (λ (o : Option Error). unwrap_or o c.new.result) told.1 in
    subst (λ (e : Error). IsUngathered target_at c.args.self.now c.args.low.now e) (sym is)
    (target_refused c.args.self.now c.args.low.now told.0 told.2)
