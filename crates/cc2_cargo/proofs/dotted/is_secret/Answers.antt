use Rattle.std.proofs.Common.{rules, codes}
use Rattle.toml.proofs.Views.{table_get}
use Rattle.cc2_cargo.proofs.dotted.is_secret.Goals as goal

pub returns-then-holds_secret : goal.returns-then-holds_secret
returns-then-holds_secret c =
    let own = rw (table_get c.get.result (codes "registry") c.args.table.now.entries c.get.ensures.value) at c.holds_secret.ensures in
    search rules

pub returns-else-holds_secret : goal.returns-else-holds_secret
returns-else-holds_secret c =
    let own = rw (table_get c.get.result (codes "registry") c.args.table.now.entries c.get.ensures.value) at c.holds_secret.ensures in
    let any =
    rw (table_get c.get-else-holds_secret.result (codes "registries") c.args.table.now.entries c.get-else-holds_secret.ensures.value)
    at c.any_holds_secret.ensures in
    search rules
