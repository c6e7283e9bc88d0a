use Rattle.std.proofs.Common.{◌∙◌, ap, map, take}
use Rattle.std.proofs.lemmas.List.{take_all}
use Rattle.cc2_program.specs.Overrides.{choice_by}
use Rattle.cc2_program.proofs.Pairs.{chosen_by_pairs}
use Rattle.cc2_cli.specs.Choices.{choices_of}
use Rattle.cc2_program.proofs.overrides.choices_by.Goals as goal

pub returns : goal.returns
returns g c fs told = ap choices_of (c.loop-config.invariant fs told)
    ∙ (chosen_by_pairs fs c.args.dir.now (map (λ b. b.now) (take c.loop-config.config-index c.args.configs.now))
    ∙ ap (λ configs. map (choice_by fs c.args.dir.now) (map (λ b. b.now) configs)) (take_all c.loop-config.config-index c.args.configs.now c.loop-config-test.false))
