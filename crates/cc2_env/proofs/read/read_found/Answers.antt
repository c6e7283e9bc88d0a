use Rattle.std.proofs.Common.{ℕ, List, Bor, map}
use Rattle.cc2_error.proofs.Refused.{err_exit}
use Rattle.cc2_env.specs.Options.{variables_of}
use Rattle.cc2_env.specs.Reads.{IsFoundCause, first_value}
use Rattle.cc2_env.proofs.Reading.{found_as}
use Rattle.cc2_env.proofs.read.read_found.Goals as goal

pub returns-in_err-read_variable-in-Some-clause-refused : goal.returns-in_err-read_variable-in-Some-clause-refused
returns-in_err-read_variable-in-Some-clause-refused g c =
    let names : List (List ℕ) = map (λ (name : Bor (List ℕ)). name.now) c.args.names.now in
    err_exit c.from_residual.result
    (IsFoundCause g.T.ReadEnv.text_way (first_value (variables_of c.args.context.now) names)) _ c.from_residual.ensures.1
    (found_as g.T.ReadEnv.text_way _ _ _ c.in-Some.ensures c.in_err-read_variable-in-Some.ensures.refused)
