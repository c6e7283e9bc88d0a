use Rattle.std.proofs.Common.{◌≡◌, ap, ◌∙◌}
use Rattle.cc2_env.specs.Options.{variables_of}
use Rattle.cc2_target.proofs.Causes.{err_exit}
use Rattle.cc2_env.specs.Reads.{IsFoundCause}
use Rattle.cc2_base.specs.VariableNames.{target_variable}
use Rattle.cc2_target.specs.Variables.{set_in}
use Rattle.cc2_target.proofs.Causes.{found_cause}
use Rattle.cc2_target.proofs.variables.read_setting.Goals as goal

pub returns-in_err-read_variable-in-Some-clause-refused : goal.returns-in_err-read_variable-in-Some-clause-refused
returns-in_err-read_variable-in-Some-clause-refused g c =
    let vars = variables_of c.args.context.now in
    let way = g.T.ReadEnv.text_way in
    let n = target_variable c.args.triple.now c.args.what.now in
    let looked : c.as_str.result.now ≡ n = c.as_str.ensures.value ∙ c.in_ok-name.ensures in
    let named : c.as_str-in-Some.result.now ≡ n = c.as_str-in-Some.ensures.value ∙ c.in_ok-name.ensures in
    err_exit (IsFoundCause way (set_in vars n)) _ _ c.from_residual-in_err-read_variable-in-Some.ensures.1
    (found_cause vars way n c.as_str-in-Some.result.now c.in-Some.value.now _ named
    (c.in-Some.ensures ∙ ap vars looked) c.in_err-read_variable-in-Some.ensures.refused)
