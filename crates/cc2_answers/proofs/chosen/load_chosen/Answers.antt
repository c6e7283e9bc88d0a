use Rattle.std.proofs.Common.{map, string_bytes, inl}
use Rattle.cc2_error.proofs.Refused.{answered_exit}
use Rattle.cc2_answers.specs.Choices.{IsConfigUnder, IsConfigUnderCause, overrides_by}
use Rattle.cc2_answers.proofs.Alone.{under_options}
use Rattle.cc2_answers.proofs.chosen.load_chosen.Goals as goal

pub returns-in_err-options : goal.returns-in_err-options
returns-in_err-options g c fs told =
    let os = overrides_by (map string_bytes c.args.choices.now) in
    answered_exit (λ config. config) c.from_residual.result (IsConfigUnder fs c.args.machine.now c.args.dir.now os)
    (IsConfigUnderCause fs c.args.machine.now c.args.dir.now os) _ c.from_residual.ensures.1 (inl c.in_err-options.ensures.refused)

pub returns : goal.returns
returns g c fs told =
    under_options fs c.args.machine.now c.args.dir.now (overrides_by (map string_bytes c.args.choices.now)) c.in_ok-options.options
    c.in_ok-options.ensures.ok c.load_with_options.result (c.load_with_options.ensures fs told)
