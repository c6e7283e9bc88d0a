use Rattle.std.proofs.Common.{refl}
use Rattle.cc2_de.proofs.Configs.{config_reversed}
use Rattle.cc2_de.proofs.config.ConfigMergeFrom.reverse_lists.Goals as goal

pub returns : goal.returns
returns c = config_reversed c.args.self.now
    (record c.reverse_fields.new.table {
      target_flags_overridden = c.args.self.now.target_flags_overridden;
      target_doc_flags_overridden = c.args.self.now.target_doc_flags_overridden;
    }) c.in_ok-reverse_fields.ensures refl refl
