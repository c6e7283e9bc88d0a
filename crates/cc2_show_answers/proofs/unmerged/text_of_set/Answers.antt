use Rattle.std.proofs.Common.{◌⊎◌, ◌∷◌, [], List, ℕ, map, string_bytes, sym, subst}
use Rattle.cc2_error.specs.Causes.{refusal_of}
use Rattle.cc2_error.specs.Outcomes.{IsWantOfMemory}
use Rattle.cc2_error.proofs.Refused.{err_exit}
use Rattle.cc2_env.specs.CommandLine.{Override}
use Rattle.cc2_de.specs.Config.{config_at}
use Rattle.cc2_answers.specs.Choices.{overrides_by}
use Rattle.cc2_de.specs.OverridesAlone.{IsSetOver}
use Rattle.cc2_cli.specs.ShowTasks.{request_view}
use Rattle.cc2_show_answers.specs.Sources.{IsCauseAmong, command_line, set_above, variables}
use Rattle.cc2_show_answers.specs.Unmerged.{AreBlocks}
use Rattle.cc2_show_answers.proofs.Blocks.{both, of_overrides, of_variables, one}
use Rattle.cc2_show_answers.proofs.unmerged.text_of_set.Goals as goal

pub returns-in_err-overrides-clause-refused : goal.returns-in_err-overrides-clause-refused
returns-in_err-overrides-clause-refused g c fs told =
    let machine = c.args.machine.now in
    let dir = c.args.request.dir.now in
    let os = overrides_by (map string_bytes c.args.choices.now) in
    err_exit c.from_residual-in_err-overrides.result (λ e. IsWantOfMemory e ⊎ IsCauseAmong fs machine dir os set_above (refusal_of e)) _
    c.from_residual-in_err-overrides.ensures.1
    (of_overrides fs machine dir os c.in_ok-options.options _ c.in_ok-options.ensures.ok (c.in_err-overrides.ensures.refused fs told))

pub returns-in_err-variables-clause-refused : goal.returns-in_err-variables-clause-refused
returns-in_err-variables-clause-refused g c fs told =
    let machine = c.args.machine.now in
    let dir = c.args.request.dir.now in
    let os = overrides_by (map string_bytes c.args.choices.now) in
    err_exit c.from_residual-in_err-variables.result (λ e. IsWantOfMemory e ⊎ IsCauseAmong fs machine dir os set_above (refusal_of e)) _
    c.from_residual-in_err-variables.ensures.1 (of_variables fs machine dir os _ c.in_err-variables.ensures.refused)

pub returns-clause-ok : goal.returns-clause-ok
returns-clause-ok g c fs told =
    let machine = c.args.machine.now in
    let dir = c.args.request.dir.now in
    let os = overrides_by (map string_bytes c.args.choices.now) in
    let request = request_view c.args.request in
    let pieces = map (λ p. p.now) c.args.pieces.now in
    let over = subst (λ (ps : List Override). IsSetOver fs dir ps (config_at c.in_ok-overrides.overrides)) c.in_ok-options.ensures.ok.overrides (c.in_ok-overrides.ensures.ok fs told) in
    let first = one fs machine os request pieces command_line c.in_ok-text.text.items (config_at c.in_ok-overrides.overrides, over, c.in_ok-text.ensures) in
    let second = one fs machine os request pieces variables c.in_ok-below.below.items
    (config_at c.in_ok-variables.variables, c.in_ok-variables.ensures.ok, c.in_ok-below.ensures) in
    subst (λ (text : List ℕ). AreBlocks fs machine os request pieces set_above text) (sym c.in_ok-append.ensures.items)
    (both fs machine os request pieces (command_line ∷ []) (variables ∷ []) c.in_ok-text.text.items c.in_ok-below.below.items first second)
