use Rattle.cc2_error.proofs.Refused.{err_exit}
use Rattle.cc2_findings.proofs.Caused.{caused}
use Rattle.cc2_resolved.specs.ShownTargets.{target_at}
use Rattle.cargo_config2.specs.Loads.{IsConfigCause, nothing_chosen}
use Rattle.cargo_config2.proofs.Fresh.{fresh_agrees}
use Rattle.cc2_lint_settings.proofs.Told.{untold}
use Rattle.cc2_lint_settings.proofs.rival_cfg_set.cfg_set.Goals as goal

pub returns-in_err-set-in-Ok-clause-refused : goal.returns-in_err-set-in-Ok-clause-refused
returns-in_err-set-in-Ok-clause-refused g c fs answers files programs =
    let config = c.in-Ok.config in
    let e = c.in_err-set-in-Ok.field-0.0 in
    let (is, free) = c.in-Ok.ensures fs files in
    err_exit c.from_residual.result _ e c.from_residual.ensures.1
    (untold fs answers c.args.machine.now c.args.dir.now (target_at c.args.target.now) config e is
    (c.in_err-set-in-Ok.ensures.answer fs answers files programs (fresh_agrees fs answers config is.nothing_kept is.no_targets)))

pub returns-in_ok-set-in-Ok-clause-ok : goal.returns-in_ok-set-in-Ok-clause-ok
returns-in_ok-set-in-Ok-clause-ok g c fs answers files programs =
    let config = c.in-Ok.config in
    let (is, free) = c.in-Ok.ensures fs files in
    (config, is, c.in_ok-set-in-Ok.ensures.answer fs answers files programs (fresh_agrees fs answers config is.nothing_kept is.no_targets))

pub returns-in_ok-no_memory_wanted-in-Err-clause-ok : goal.returns-in_ok-no_memory_wanted-in-Err-clause-ok
returns-in_ok-no_memory_wanted-in-Err-clause-ok g c fs answers files programs =
    caused (IsConfigCause fs c.args.machine.now c.args.dir.now nothing_chosen) c.in-Err.error (c.in-Err.ensures fs files)
    c.in_ok-no_memory_wanted-in-Err.ensures.ok
