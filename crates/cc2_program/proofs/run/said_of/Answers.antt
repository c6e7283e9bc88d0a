use Rattle.std.proofs.Common.{◌≡◌, ◌∙◌, ◌⊎◌, ap, map, string_bytes, subst}
use Rattle.cc2_command_line.specs.CommandViews.{command_view}
use Rattle.cc2_command_line.specs.LineViews.{line_view}
use Rattle.cc2_program.specs.Overrides.{choice_by}
use Rattle.cc2_program.specs.Runs.{CommandAsks, CommandGives}
use Rattle.cc2_program.specs.SaidViews.{written}
use Rattle.cc2_program.specs.Streams.{out_of_memory}
use Rattle.cc2_cli.specs.Choices.{choices_of}
use Rattle.cc2_program.proofs.run.said_of.Goals as goal

pub returns-in-Ok-clause-asks : goal.returns-in-Ok-clause-asks
returns-in-Ok-clause-asks g c fs answers files programs =
    let reals = g.L.RealPaths.told c.args.reals.now in
    let runs = g.P.WithVariables.told_with c.args.programs.now in
    let machine = c.args.place.now.machine.now in
    let w = written c.command_said.result in
    let configs = c.as_slice.result.now in
    let dir = string_bytes machine.current_dir in
    subst (λ choices. CommandAsks fs reals answers runs machine choices (line_view c.args.line.now).configs (command_view c.args.line.now.command) w ⊎ (w ≡ out_of_memory))
    (ap (λ words. choices_of (map string_bytes words)) c.as_slice-in-Ok.ensures.value
    ∙ (c.in-Ok.ensures fs files
    ∙ (ap (λ d. map (choice_by fs d) (map (λ config. config.now) configs)) c.as_str-dir.ensures.value
    ∙ ap (λ cs. map (choice_by fs dir) (map (λ config. config.now) cs)) c.as_slice.ensures.value)))
    (c.command_said.ensures.asks fs answers files programs)

pub returns-in-Ok-clause-told : goal.returns-in-Ok-clause-told
returns-in-Ok-clause-told g c fs files =
    let reals = g.L.RealPaths.told c.args.reals.now in
    let machine = c.args.place.now.machine.now in
    let w = written c.command_said.result in
    let configs = c.as_slice.result.now in
    let dir = string_bytes machine.current_dir in
    subst (λ choices. CommandGives fs reals machine choices (line_view c.args.line.now).configs (command_view c.args.line.now.command) w ⊎ (w ≡ out_of_memory))
    (ap (λ words. choices_of (map string_bytes words)) c.as_slice-in-Ok.ensures.value
    ∙ (c.in-Ok.ensures fs files
    ∙ (ap (λ d. map (choice_by fs d) (map (λ config. config.now) configs)) c.as_str-dir.ensures.value
    ∙ ap (λ cs. map (choice_by fs dir) (map (λ config. config.now) cs)) c.as_slice.ensures.value)))
    (c.command_said.ensures.told fs files)
