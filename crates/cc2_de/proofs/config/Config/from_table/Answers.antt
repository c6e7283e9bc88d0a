use Rattle.std.proofs.Common.{[], None, subst}
use Rattle.toml.specs.Data.{Members}
use Rattle.cc2_value.specs.Ways.{IsDecoded, IsFaultBehind}
use Rattle.cc2_de.specs.Config.{config_at, decoded, config_faults}
use Rattle.cc2_de.proofs.Copied.{members_copied}
use Rattle.cc2_de.proofs.config.Config.from_table.Goals as goal

pub returns-in-Ok-clause-ok : goal.returns-in-Ok-clause-ok
returns-in-Ok-clause-ok c =
    subst (λ (ms : Members). IsDecoded config_at (decoded None ms) (config_faults ms) c.read_members.new.self)
    (members_copied c.args.table.now.entries c.in_ok-copy.copy.entries c.in_ok-copy.ensures.cases) c.in-Ok.ensures.ok

pub returns-in-Err-clause-refused : goal.returns-in-Err-clause-refused
returns-in-Err-clause-refused c =
    subst (λ (ms : Members). IsFaultBehind [] (config_faults ms) c.in-Err.error)
    (members_copied c.args.table.now.entries c.in_ok-copy.copy.entries c.in_ok-copy.ensures.cases) c.in-Err.ensures.refused
