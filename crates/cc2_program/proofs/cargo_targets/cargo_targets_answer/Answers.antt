use Rattle.std.proofs.Common.{ℕ, List, Bor, map, string_bytes, subst}
use Rattle.std.specs.Result.{result_map_both}
use Rattle.serde_json.specs.View.{view}
use Rattle.cc2_cli.specs.Answers.{answer_text}
use Rattle.cc2_error.specs.Causes.{refusal_of}
use Rattle.cargo_rules.specs.WithEnv.{IsWithEnv}
use Rattle.cc2_target_answers.specs.CargoTargets.{AreAsked}
use Rattle.cc2_program.specs.CargoTargets.{PrintsCargoTargets}
use Rattle.cc2_program.specs.Queries.{settings_text}
use Rattle.cc2_program.proofs.CargoLoaded.{prints}
use Rattle.cc2_program.proofs.cargo_targets.cargo_targets_answer.Goals as goal

pub returns-clause-told : goal.returns-clause-told
returns-clause-told g c fs real_paths own files reals runs =
    let machine = c.args.machine.now in
    let dir = c.as_str-dir.result.now in
    let overrides = map (λ text. text.now) c.args.overrides.now in
    let triples = c.as_slice-triples.result.now in
    let texts = map (λ t. t.now) triples in
    let scripts = c.args.targets.now.build_scripts in
    let how = c.args.targets.now.format in
    let answer = c.answer_by.result in
    subst (λ (xs : List (Bor (List ℕ))). PrintsCargoTargets fs real_paths own machine (string_bytes machine.current_dir) overrides (map (λ t. t.now) xs) scripts how
    (answer_text answer) answer.status) c.as_slice-triples.ensures.value
    (subst (λ (d : List ℕ). PrintsCargoTargets fs real_paths own machine d overrides texts scripts how (answer_text answer) answer.status) c.as_str-dir.ensures.value
    (prints fs real_paths machine dir overrides
    (λ settings. IsWithEnv (λ answers o. AreAsked settings machine dir texts answers scripts o) settings machine dir own) (settings_text how)
    (result_map_both view refusal_of c.cargo_targets-found.result) answer (c.cargo_targets-found.ensures.told fs real_paths own files reals runs)
    c.answer_by.ensures.shows))
