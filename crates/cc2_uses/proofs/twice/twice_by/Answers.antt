use Rattle.std.proofs.Common.{◌∙◌}
use Rattle.cargo_config2.specs.ShownTargets.{target_at}
use Rattle.cc2_uses.proofs.Same.{same_settings}
use Rattle.cc2_uses.proofs.twice.twice_by.Goals as goal

pub returns-clause-same : goal.returns-clause-same
returns-clause-same g c fs answers files programs h =
    let first = c.in_ok-first_one.ensures in
    let second = c.in_ok-first_other.ensures in
    let third = c.in_ok-again_one.ensures in
    let fourth = c.in_ok-again_other.ensures in
    let told = (first.same answers).0 programs in
    let told_again = (second.same answers).0 told in
    let after = first.leaves.agrees fs answers files programs h in
    let later = second.leaves.agrees fs answers files told after in
    let last = third.leaves.agrees fs answers files told_again later in (
      same_settings fs answers c.args.config.now c.linker-2.new.self (second.leaves.tables ∙ first.leaves.tables)
          (second.leaves.loaded ∙ first.leaves.loaded) (target_at c.args.one.now) (λ a. a.linker) _ _
          (first.answer fs answers files programs h).0 (third.answer fs answers files told_again later).0,
      same_settings fs answers c.linker.new.self c.linker-3.new.self (third.leaves.tables ∙ second.leaves.tables)
          (third.leaves.loaded ∙ second.leaves.loaded) (target_at c.args.other.now) (λ a. a.linker) _ _
          (second.answer fs answers files told after).0 (fourth.answer fs answers files
          ((third.same answers).0 told_again) last).0,
    )
