use Rattle.std.proofs.Common.{option_map}
use Rattle.cargo_config2.specs.Answers.{text_answer}
use Rattle.cargo_config2.specs.Outcomes.{Answered}
use Rattle.cargo_config2.specs.ShownTargets.{target_at}
use Rattle.cc2_uses.proofs.Back.{answered_back}
use Rattle.cc2_uses.proofs.in_turn.linker_after.Goals as goal

pub returns : goal.returns
returns g c fs answers files programs h =
    let left = c.ask_in_turn.ensures.left in
    answered_back fs answers c.args.config.now c.ask_in_turn.new.config left.tables left.loaded
    (target_at c.args.target.now) (λ a. a.linker)
    (λ Is Stands. Answered (option_map text_answer) c.linker.result Is Stands)
    (c.linker.ensures.answer fs answers files ((c.ask_in_turn.ensures.same answers).0 programs)
    (left.agrees fs answers files programs h))
