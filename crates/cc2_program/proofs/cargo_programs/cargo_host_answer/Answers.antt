use Rattle.std.proofs.Common.{◌≡◌, ℕ, IfOk, List, map, string_bytes, ap, inl, subst}
use Rattle.std.specs.Result.{result_map_both}
use Rattle.cc2_cli.proofs.Shown.{refused, shown}
use Rattle.cc2_cli.specs.Answers.{answer_text}
use Rattle.cc2_cli.specs.CommandLines.{host_line}
use Rattle.cc2_error.specs.Causes.{refusal_of}
use Rattle.cc2_program.specs.CargoPrograms.{PrintsCargoHost, host_by}
use Rattle.cargo_rules.specs.WithEnv.{IsWithEnv}
use Rattle.cc2_program.proofs.CargoLoaded.{prints}
use Rattle.cc2_program.proofs.Ended.{found_or_error}
use Rattle.cc2_program.proofs.cargo_programs.cargo_host_answer.Goals as goal

pub returns-in-Ok-clause-one : goal.returns-in-Ok-clause-one
returns-in-Ok-clause-one g c = found_or_error c.host_line.result c.answer_of.result c.answer_of.ensures

pub returns-in-Ok-clause-told : goal.returns-in-Ok-clause-told
returns-in-Ok-clause-told g c fs real_paths own files reals runs =
    let machine = c.args.machine.now in
    let overrides = map (λ text. text.now) c.args.overrides.now in
    let dir = c.as_str-dir.result.now in
    let answer = c.answer_of.result in
    let outcome = result_map_both string_bytes refusal_of c.host_under.result in
    subst (λ (d : List ℕ). PrintsCargoHost fs real_paths own machine d overrides (answer_text answer) answer.status) c.as_str-dir.ensures.value
    (prints fs real_paths machine dir overrides (λ settings. IsWithEnv (λ answers o. o ≡ host_by settings machine dir answers) settings machine dir own) host_line outcome answer
    (c.host_under.ensures fs real_paths own files reals runs)
    (shown host_line (string_bytes c.in-Ok.host) outcome c.host_line.result answer (ap (result_map_both string_bytes refusal_of) c.in-Ok.is)
    (subst (λ (host : List ℕ). IfOk c.host_line.result (λ text. text.items ≡ host_line host)) c.as_str.ensures.value c.host_line.ensures) c.answer_of.ensures))

pub returns-in-Err-clause-told : goal.returns-in-Err-clause-told
returns-in-Err-clause-told g c fs real_paths own files reals runs =
    let machine = c.args.machine.now in
    let overrides = map (λ text. text.now) c.args.overrides.now in
    let dir = c.as_str-dir.result.now in
    let answer = c.refusal_answer.result in
    let outcome = result_map_both string_bytes refusal_of c.host_under.result in
    subst (λ (d : List ℕ). PrintsCargoHost fs real_paths own machine d overrides (answer_text answer) answer.status) c.as_str-dir.ensures.value
    (prints fs real_paths machine dir overrides (λ settings. IsWithEnv (λ answers o. o ≡ host_by settings machine dir answers) settings machine dir own) host_line outcome answer
    (c.host_under.ensures fs real_paths own files reals runs)
    (refused host_line outcome (refusal_of c.in-Err.error) answer (inl (ap (result_map_both string_bytes refusal_of) c.in-Err.is)) c.refusal_answer.ensures))
