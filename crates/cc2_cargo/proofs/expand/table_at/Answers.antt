use Rattle.std.proofs.Common.{inr}
use Rattle.cc2_cargo.proofs.expand.table_at.Goals as goal

pub returns-clause-refused : goal.returns-clause-refused
returns-clause-refused g c fs told =
    inr (c.in_ok-from_str-in-Err.ensures.ok, (c.in-Ok.bytes.items, c.in-Ok.ensures.bytes fs told, rw c.as_slice.ensures.value at c.in-Err.ensures.cases.0))
