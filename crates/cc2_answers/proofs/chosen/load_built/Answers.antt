use Rattle.std.proofs.Common.{map, string_bytes, inl}
use Rattle.cc2_error.proofs.Refused.{answered_exit}
use Rattle.cc2_de.specs.Config.{config_at}
use Rattle.cc2_answers.specs.Choices.{overrides_by}
use Rattle.cc2_answers.specs.Environments.{IsBuilt, IsBuiltCause}
use Rattle.cc2_answers.proofs.Unchosen.{built_answer}
use Rattle.cc2_answers.proofs.chosen.load_built.Goals as goal

pub returns-in_err-options : goal.returns-in_err-options
returns-in_err-options g c fs told =
    let os = overrides_by (map string_bytes c.args.choices.now) in
    answered_exit (λ configured. config_at configured.config) c.from_residual.result (IsBuilt fs c.args.machine.now c.args.dir.now os)
    (IsBuiltCause fs c.args.machine.now c.args.dir.now os) _ c.from_residual.ensures.1 (inl c.in_err-options.ensures.refused)

pub returns : goal.returns
returns g c fs told =
    let alone = c.in_ok-options.ensures.ok in
    built_answer c.args.machine.now c.args.dir.now c.in_ok-options.options alone.env alone.cargo alone.home
    (overrides_by (map string_bytes c.args.choices.now)) alone.overrides fs c.load_under.result (c.load_under.ensures fs told)
