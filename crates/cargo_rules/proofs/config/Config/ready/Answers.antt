use Rattle.std.proofs.Common.{inl, inr, ⊎_elim}
use Rattle.cc2_cargo_settings.specs.EnvVariables.{variables_view}
use Rattle.cargo_rules.proofs.Asking.{no_env, ready_by}
use Rattle.cargo_rules.proofs.config.Config.ready.Goals as goal

pub returns-in_err-variables : goal.returns-in_err-variables
returns-in_err-variables g c own runs =
    let (names, are, gives) = c.in_err-variables.ensures in
    no_env c.args.self.now own (g.P.Programs.told c.args.programs.now) c.from_residual.result c.in_err-variables.field-0.0 c.from_residual.ensures.1
    (⊎_elim (λ lacks. inl lacks) (λ is. inr (record { names = names; are = are; is = is })) gives)

pub returns : goal.returns
returns g c own runs =
    let (names, are, gives) = c.in_ok-variables.ensures in
    let variables = variables_view c.in_ok-variables.variables in
    ready_by c.args.self.now own (g.P.Programs.told c.set_variables.new.self) variables c.rustc.result (record { names = names; are = are; is = gives })
    (c.set_variables.ensures.told own runs) c.rustc.ensures
