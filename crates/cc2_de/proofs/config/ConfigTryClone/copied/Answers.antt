use Rattle.std.proofs.Common.{refl}
use Rattle.cc2_value.specs.Copies.{origin_given}
use Rattle.cc2_de.proofs.Configs.{config_copied}
use Rattle.cc2_de.proofs.config.ConfigTryClone.copied.Goals as goal

pub returns-clause-ok : goal.returns-clause-ok
returns-clause-ok c = config_copied (origin_given c.args.definition) c.args.self.now
    (record c.copy_fields.new.copy {
      target_flags_overridden = c.args.self.now.target_flags_overridden;
      target_doc_flags_overridden = c.args.self.now.target_doc_flags_overridden;
    }) c.in_ok-copy_fields.ensures.ok refl refl
