use Rattle.std.proofs.Common.{IfSome, ℕ, List, map, string_bytes, ap, sym, subst, ◌∙◌}
use Rattle.cc2_cargo_answers.specs.Gives.{CargoGives}
use Rattle.cc2_cargo_answers.specs.Layers.{LayersShown, layers_view}
use Rattle.cc2_cli.specs.Choices.{choices_of}
use Rattle.cc2_cli.specs.ShowWords.{Request}
use Rattle.cc2_command_line.specs.CommandViews.{get_view}
use Rattle.cc2_program.specs.Requests.{layers_of, request_of}
use Rattle.cc2_program.specs.Runs.{RulesGive}
use Rattle.cc2_command_line.specs.declared.choice.Rules.{Rules}
use Rattle.cc2_show_answers.specs.ToldAnswers as shown
use Rattle.cc2_program.proofs.EachWorld.{in_each}
use Rattle.cc2_program.proofs.shown.told_by_rules.Goals as goal

pub returns-in-Cargo-clause-told : goal.returns-in-Cargo-clause-told
returns-in-Cargo-clause-told g c fs files =
    let machine = c.args.machine.now in
    let reals = g.L.RealPaths.told c.args.reals.now in
    let get = get_view c.args.get.now in
    let request = request_of (string_bytes machine.current_dir) get in
    let choices = choices_of (map string_bytes c.args.choices.now) in
    let layers = layers_of get.stage (map (λ text. text.now) c.args.overrides.now) in
    let result = c.get_by_cargo.result in
    let same = ◌∙◌ {b = request_of c.as_str.result.now get} c.request_of-request.ensures (ap (λ (d : List ℕ). request_of d get) c.as_str.ensures.value) in
    subst (λ (rules : Rules). IfSome result (λ told. RulesGive fs reals machine rules choices layers request (shown.written told))) (sym c.in-Cargo.is)
    (in_each result reals (λ real_paths told. CargoGives fs real_paths machine layers request (shown.written told))
    (λ real_paths real. subst (λ (l : LayersShown). IfSome result (λ told. CargoGives fs real_paths machine l request (shown.written told)))
    c.layers_of-layers.ensures
    (subst (λ (r : Request). IfSome result (λ told. CargoGives fs real_paths machine (layers_view c.layers_of-layers.result) r (shown.written told))) same
    (c.get_by_cargo.ensures.told fs files real_paths real))))
