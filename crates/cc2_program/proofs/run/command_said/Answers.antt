use Rattle.std.proofs.Common.{◌≡◌, ◌⊎◌, ℕ, List, Bor, inl, map, string_bytes, subst, sym}
use Rattle.cc2_cli.specs.Answers.{answer_text}
use Rattle.cc2_command_line.specs.CommandViews.{command_view, get_view, targets_view}
use Rattle.cc2_command_line.specs.LineViews.{line_view}
use Rattle.cc2_command_line.specs.declared.command.Command.{Command}
use Rattle.cc2_program.specs.Runs.{CommandAlways, CommandAsks, CommandFinds, CommandGives, GetWrites, HostPrints, RulesPrint, RustcPrints, TaskWrites}
use Rattle.cc2_program.specs.SaidViews.{written}
use Rattle.cc2_program.specs.Streams.{out_of_memory}
use Rattle.cc2_cli.specs.Choices.{choices_of}
use Rattle.cc2_program.proofs.run.command_said.Goals as goal

pub returns-in-Target-clause-asks : goal.returns-in-Target-clause-asks
returns-in-Target-clause-asks g c fs answers files programs =
    let reals = g.L.RealPaths.told c.args.reals.now in
    let runs = g.P.WithVariables.told_with c.args.programs.now in
    let machine = c.args.place.now.machine.now in
    let choices = choices_of (map string_bytes c.args.choices.now) in
    let configs = (line_view c.args.line.now).configs in
    let w = written c.targets_said.result in
    subst (λ (command : Command). CommandAsks fs reals answers runs machine choices configs (command_view command) w ⊎ (w ≡ out_of_memory))
    (sym c.in-Target.is)
    (inl (subst (λ (cs : List (Bor (List ℕ))). TaskWrites (RulesPrint fs reals answers runs machine c.in-Target.targets.rules (targets_view c.in-Target.targets)
    choices (map (λ text. text.now) cs)) w) c.as_slice-overrides.ensures.value
    (c.targets_said.ensures.asks fs answers files programs)))

pub returns-in-Version-clause-asks : goal.returns-in-Version-clause-asks
returns-in-Version-clause-asks g c fs answers files programs =
    let reals = g.L.RealPaths.told c.args.reals.now in
    let runs = g.P.WithVariables.told_with c.args.programs.now in
    let machine = c.args.place.now.machine.now in
    let choices = choices_of (map string_bytes c.args.choices.now) in
    let configs = (line_view c.args.line.now).configs in
    let answer = c.versions_answer.result in
    let w = written c.by_status.result in
    subst (λ (command : Command). CommandAsks fs reals answers runs machine choices configs (command_view command) w ⊎ (w ≡ out_of_memory))
    (sym c.in-Version.is)
    (inl (answer_text answer, answer.status, c.versions_answer.ensures.told fs answers files programs, c.by_status.ensures.is))

pub returns-in-Get-clause-told : goal.returns-in-Get-clause-told
returns-in-Get-clause-told g c fs files =
    let reals = g.L.RealPaths.told c.args.reals.now in
    let machine = c.args.place.now.machine.now in
    let choices = choices_of (map string_bytes c.args.choices.now) in
    let configs = (line_view c.args.line.now).configs in
    let w = written c.get_said.result in
    subst (λ (command : Command). CommandGives fs reals machine choices configs (command_view command) w ⊎ (w ≡ out_of_memory))
    (sym c.in-Get.is)
    (inl (subst (λ (cs : List (Bor (List ℕ))). GetWrites fs reals machine choices (map (λ text. text.now) cs) (get_view c.in-Get.get) w)
    c.as_slice-overrides.ensures.value (c.get_said.ensures.told fs files)))

pub returns-in-Rustc-clause-told : goal.returns-in-Rustc-clause-told
returns-in-Rustc-clause-told g c fs files =
    let reals = g.L.RealPaths.told c.args.reals.now in
    let machine = c.args.place.now.machine.now in
    let choices = choices_of (map string_bytes c.args.choices.now) in
    let configs = (line_view c.args.line.now).configs in
    let w = written c.rustc_said.result in
    subst (λ (command : Command). CommandGives fs reals machine choices configs (command_view command) w ⊎ (w ≡ out_of_memory))
    (sym c.in-Rustc.is)
    (inl (subst (λ (cs : List (Bor (List ℕ))). TaskWrites (RustcPrints fs reals machine c.in-Rustc.rules choices (map (λ text. text.now) cs)) w)
    c.as_slice-overrides.ensures.value (c.rustc_said.ensures.told fs files)))

pub returns-in-Host-clause-asks : goal.returns-in-Host-clause-asks
returns-in-Host-clause-asks g c fs answers files programs =
    let reals = g.L.RealPaths.told c.args.reals.now in
    let runs = g.P.WithVariables.told_with c.args.programs.now in
    let machine = c.args.place.now.machine.now in
    let choices = choices_of (map string_bytes c.args.choices.now) in
    let configs = (line_view c.args.line.now).configs in
    let w = written c.host_said.result in
    subst (λ (command : Command). CommandAsks fs reals answers runs machine choices configs (command_view command) w ⊎ (w ≡ out_of_memory))
    (sym c.in-Host.is)
    (inl (subst (λ (cs : List (Bor (List ℕ))). TaskWrites (HostPrints fs reals answers runs machine c.in-Host.rules choices (map (λ text. text.now) cs)) w)
    c.as_slice-overrides.ensures.value (c.host_said.ensures.asks fs answers files programs)))

pub returns-in-Lint-clause-always : goal.returns-in-Lint-clause-always
returns-in-Lint-clause-always g c =
    let w = written c.lint_said.result in
    subst (λ (command : Command). CommandAlways c.args.place.now.is_coloured (command_view command) c.args.line.now.quiet w ⊎ (w ≡ out_of_memory))
    (sym c.in-Lint.is) c.lint_said.ensures.always

pub returns-in-Lint-clause-finds : goal.returns-in-Lint-clause-finds
returns-in-Lint-clause-finds g c fs answers is_open files programs permissions =
    let place = c.args.place.now in
    let w = written c.lint_said.result in
    subst (λ (command : Command). CommandFinds fs (g.L.RealPaths.told c.args.reals.now) (g.S.Launcher.told_with c.args.launcher.now) answers is_open place.machine.now (map string_bytes place.paths.now) place.is_coloured
    (command_view command) c.args.line.now.quiet w ⊎ (w ≡ out_of_memory))
    (sym c.in-Lint.is) (c.lint_said.ensures.finds fs answers is_open files programs permissions)
