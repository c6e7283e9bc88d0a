use Rattle.std.proofs.Common.{option_map}
use Rattle.cargo_config2.specs.ShownTargets.{target_at}
use Rattle.cargo_config2.specs.Answers.{flags_answer}
use Rattle.cc2_uses.proofs.Same.{setting_back}
use Rattle.cc2_uses.proofs.subcommand.toolchain_by.Goals as goal

pub returns-clause-told : goal.returns-clause-told
returns-clause-told g c fs answers files programs h =
    let was = c.args.config.now in
    let linker = c.in_ok-linker.ensures in
    let left = linker.leaves in record {
      linker = (linker.answer fs answers files programs h).0;
      rustflags = setting_back fs answers was c.linker.new.self left.tables left.loaded (target_at c.args.target.now)
          (λ a. a.rustflags) (option_map flags_answer c.in_ok-rustflags.rustflags)
          (c.in_ok-rustflags.ensures.answer fs answers files ((linker.same answers).0 programs)
          (left.agrees fs answers files programs h)).0;
    }
