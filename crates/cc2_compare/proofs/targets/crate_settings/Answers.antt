use Rattle.std.proofs.Common.{Ok, Err, ap, inr, refl, false, ◌∙◌}
use Rattle.std.specs.Prelude.{◌||◌}
use Rattle.std.proofs.lemmas.Result.{err_from_is_err_and}
use Rattle.std.specs.Result.{result_map_both}
use Rattle.serde_json.specs.View.{view}
use Rattle.serde_json.specs.Written.{has_float}
use Rattle.cc2_error.specs.Causes.{memory, plain, refusal_of}
use Rattle.cc2_compare.proofs.targets.crate_settings.Goals as goal

pub returns-in_err-found-clause-told : goal.returns-in_err-found-clause-told
returns-in_err-found-clause-told g c fs answers files programs =
    let p = err_from_is_err_and c.from_residual.result c.from_residual.ensures.1 in
    rw (p.1, p.2) (Err (refusal_of c.in_err-found.field-0.0), c.in_err-found.ensures.told fs answers files programs, refl)

pub returns-clause-free : goal.returns-clause-free
returns-clause-free g c = ap has_float c.in_ok-alone_at.ensures ∙ ap (λ b. b || false) c.in_ok-found.ensures.free

pub returns-clause-told : goal.returns-clause-told
returns-clause-told g c fs answers files programs =
    (Ok (view c.in_ok-found.found), c.in_ok-found.ensures.told fs answers files programs, ap Ok c.in_ok-alone_at.ensures)

pub returns-in_err-alone_at-clause-told : goal.returns-in_err-alone_at-clause-told
returns-in_err-alone_at-clause-told g c fs answers files programs =
    let p = err_from_is_err_and c.from_residual-in_err-alone_at.result c.from_residual-in_err-alone_at.ensures.1 in
    (Err (plain memory), inr (inr refl), ap (result_map_both view refusal_of) p.1 ∙ ap (λ e. Err (refusal_of e)) p.2)
