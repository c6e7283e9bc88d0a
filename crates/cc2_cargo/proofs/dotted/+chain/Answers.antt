use Rattle.std.proofs.Common.{rules}
use Rattle.cc2_cargo.proofs.Dotting.{counted}
use Rattle.cc2_cargo.proofs.dotted.+chain.Goals as goal

pub is_chain-returns-then-len-eq1 : goal.is_chain-returns-then-len-eq1
is_chain-returns-then-len-eq1 t c =
    let many = counted c.args.table.now.entries in
    search rules

pub is_chain-returns-else-len-eq1 : goal.is_chain-returns-else-len-eq1
is_chain-returns-else-len-eq1 t c =
    let many = counted c.args.table.now.entries in
    search rules
