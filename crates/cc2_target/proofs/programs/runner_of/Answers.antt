use Rattle.std.proofs.Common.{[], Some, option_map, refl, sym, ap, ◌∙◌}
use Rattle.cc2_value.specs.Values.{word_of, words_of}
use Rattle.cc2_leaf.specs.Commands.{command_value}
use Rattle.cc2_resolved.specs.Answers.{command, command_answer}
use Rattle.cc2_resolved.specs.Resolving.{command_for, settled, texts_of}
use Rattle.cc2_resolved.specs.Rows.{made_of}
use Rattle.cc2_resolved.specs.Turns.{map_ok}
use Rattle.cc2_target.specs.Settings.{site_for}
use Rattle.cc2_target.proofs.Exits.{gives_exit, refused_more}
use Rattle.cc2_target.proofs.programs.runner_of.Goals as goal

pub returns-in_err-resolve_command-in-Some : goal.returns-in_err-resolve_command-in-Some
returns-in_err-resolve_command-in-Some c =
    let directory = c.args.directory.now in
    let how = made_of (settled (site_for directory)) in
    let copy = c.in_ok-runner-in-Some.runner in
    gives_exit (option_map command_answer) c.from_residual-in_err-resolve_command-in-Some.result
    (how (command_value (option_map (λ r. r.now) c.args.runner) [])) c.in_err-resolve_command-in-Some.field-0.0
    c.from_residual-in_err-resolve_command-in-Some.ensures.1
    (refused_more (λ r. map_ok Some (map_ok command r)) (λ refusal. refl)
    (command_for directory (word_of copy.path.value) (texts_of (words_of copy.args.items))) _ _
    (ap (λ o. how (command_value (option_map (λ r. r.now) o) [])) c.in-Some.is
    ∙ ap how (sym (c.in_ok-runner-in-Some.ensures.ok []))) c.in_err-resolve_command-in-Some.ensures)

pub returns-in_ok-resolve_command-in-Some : goal.returns-in_ok-resolve_command-in-Some
returns-in_ok-resolve_command-in-Some c =
    let how = made_of (settled (site_for c.args.directory.now)) in
    ap (λ o. how (command_value (option_map (λ r. r.now) o) [])) c.in-Some.is
    ∙ ap how (sym (c.in_ok-runner-in-Some.ensures.ok []))
    ∙ ap (λ r. map_ok Some (map_ok command r)) c.in_ok-resolve_command-in-Some.ensures
