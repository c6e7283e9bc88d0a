use Rattle.std.proofs.Common.{false, refl}
use Rattle.toml.specs.View.{table_view}
use Rattle.cc2_value.specs.Copies.{origin_given}
use Rattle.cc2_de.proofs.Configs.{config_decoded}
use Rattle.cc2_de.proofs.config.Config.read_members.Goals as goal

pub returns-clause-ok : goal.returns-clause-ok
returns-clause-ok c = config_decoded (origin_given c.args.definition) (table_view c.args.table)
    (record c.read_fields.new.read { target_flags_overridden = false; target_doc_flags_overridden = false })
    c.in_ok-read_fields.ensures.ok refl refl
