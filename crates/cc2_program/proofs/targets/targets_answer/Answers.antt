use Rattle.std.proofs.Common.{ℕ, List, Bor, map, string_bytes, subst}
use Rattle.std.specs.Result.{result_map_both}
use Rattle.serde_json.specs.View.{view}
use Rattle.cc2_error.specs.Causes.{refusal_of}
use Rattle.cc2_cli.specs.Answers.{answer_text}
use Rattle.cc2_cli.specs.Choices.{choices_of}
use Rattle.cargo_config2.specs.declared.config.Config.{Config}
use Rattle.cc2_target_answers.specs.CrateTargets.{IsTargetsOutcome}
use Rattle.cc2_program.specs.Queries.{PrintsTargets, settings_text}
use Rattle.cc2_program.proofs.Loaded.{prints}
use Rattle.cc2_program.proofs.targets.targets_answer.Goals as goal

pub returns-clause-told : goal.returns-clause-told
returns-clause-told g c fs answers files programs =
    let machine = c.args.machine.now in
    let dir = c.as_str-dir.result.now in
    let choices = choices_of (map string_bytes c.args.choices.now) in
    let how = c.args.targets.now.format in
    let triples = c.as_slice-triples.result.now in
    let answer = c.answer_by.result in
    subst (λ (xs : List (Bor (List ℕ))). PrintsTargets fs answers machine (string_bytes machine.current_dir) choices (map (λ t. t.now) xs) how
    (answer_text answer) answer.status) c.as_slice-triples.ensures.value
    (subst (λ (d : List ℕ). PrintsTargets fs answers machine d choices (map (λ t. t.now) triples) how (answer_text answer) answer.status) c.as_str-dir.ensures.value
    (prints (settings_text how) (λ (x : Config). IsTargetsOutcome fs answers x (map (λ t. t.now) triples)) fs machine dir choices
    (result_map_both view refusal_of c.crate_targets-found.result) answer
    (c.crate_targets-found.ensures.told fs answers files programs) c.answer_by.ensures.shows))
