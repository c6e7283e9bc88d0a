use Rattle.cc2_env.specs.Options.{variables_of}
use Rattle.cc2_target.specs.Variables.{IsReadCause}
use Rattle.cc2_target.proofs.Causes.{err_exit, linker_cause, runner_cause, flags_cause, doc_flags_cause}
use Rattle.cc2_target.proofs.variables.TargetVariables.read.Goals as goal

pub returns-in_err-linker-clause-refused : goal.returns-in_err-linker-clause-refused
returns-in_err-linker-clause-refused c =
    let vars = variables_of c.args.context.now in
    err_exit (IsReadCause vars c.args.triple.now) _ _ c.from_residual.ensures.1
    (linker_cause vars c.args.triple.now _ c.in_err-linker.ensures.refused)

pub returns-in_err-runner-clause-refused : goal.returns-in_err-runner-clause-refused
returns-in_err-runner-clause-refused c =
    let vars = variables_of c.args.context.now in
    err_exit (IsReadCause vars c.args.triple.now) _ _ c.from_residual-in_err-runner.ensures.1
    (runner_cause vars c.args.triple.now _ c.in_err-runner.ensures.refused)

pub returns-in_err-rustflags-clause-refused : goal.returns-in_err-rustflags-clause-refused
returns-in_err-rustflags-clause-refused c =
    let vars = variables_of c.args.context.now in
    err_exit (IsReadCause vars c.args.triple.now) _ _ c.from_residual-in_err-rustflags.ensures.1
    (flags_cause vars c.args.triple.now _ c.in_err-rustflags.ensures.refused)

pub returns-in_err-rustdocflags-clause-refused : goal.returns-in_err-rustdocflags-clause-refused
returns-in_err-rustdocflags-clause-refused c =
    let vars = variables_of c.args.context.now in
    err_exit (IsReadCause vars c.args.triple.now) _ _ c.from_residual-in_err-rustdocflags.ensures.1
    (doc_flags_cause vars c.args.triple.now _ c.in_err-rustdocflags.ensures.refused)
