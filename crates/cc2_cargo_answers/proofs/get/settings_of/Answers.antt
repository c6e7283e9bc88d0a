use Rattle.std.proofs.Common.{map}
use Rattle.std.proofs.lemmas.Result.{err_from_is_err_and}
use Rattle.cc2_error.specs.Causes.{refusal_of}
use Rattle.cc2_cargo_answers.specs.Layers.{all}
use Rattle.cc2_cargo_answers.proofs.Giving.{not_loaded, of_all, of_files}
use Rattle.cc2_cargo_answers.proofs.get.settings_of.Goals as goal

pub returns-in-Files : goal.returns-in-Files
returns-in-Files g c fs tree reals real =
    rw c.in-Files.is (of_files fs reals c.args.machine.now c.args.dir.now (map (λ p. p.now) c.args.pieces.now) c.load_from.result (c.load_from.ensures fs tree reals real))

pub returns-in_err-settings-in-All : goal.returns-in_err-settings-in-All
returns-in_err-settings-in-All g c fs tree reals real =
    let os = map (λ text. text.now) c.in-All.overrides.now in
    let p = err_from_is_err_and c.from_residual.result c.from_residual.ensures.1 in
    rw c.in-All.is (rw (p.1, p.2)
    (not_loaded fs reals c.args.machine.now c.args.dir.now (map (λ p. p.now) c.args.pieces.now) (all os)
    (refusal_of c.in_err-settings-in-All.field-0.0) (c.in_err-settings-in-All.ensures fs tree reals real)))

pub returns-in_ok-settings-in-All : goal.returns-in_ok-settings-in-All
returns-in_ok-settings-in-All g c fs tree reals real =
    let os = map (λ text. text.now) c.in-All.overrides.now in
    let loaded = c.in_ok-settings-in-All.ensures fs tree reals real in
    rw c.in-All.is
    (of_all fs reals c.args.machine.now c.args.dir.now (map (λ p. p.now) c.args.pieces.now) os c.in_ok-settings-in-All.settings c.under_variables.result
    loaded.0 loaded.1 c.under_variables.ensures)
