use Rattle.std.proofs.Common.{Some, true}
use Rattle.cc2_value.specs.Copies.{origin_given}
use Rattle.cc2_value.proofs.Copies.{table_copied}
use Rattle.cc2_leaf.specs.Env.{env_fields}
use Rattle.cc2_leaf.specs.declared.env.EnvTable.{EnvTable}
use Rattle.cc2_leaf.proofs.env.EnvConfigValueTryClone.copied.Goals as goal

pub returns-in_ok-relative-in-Table-clause-ok : goal.returns-in_ok-relative-in-Table-clause-ok
returns-in_ok-relative-in-Table-clause-ok c =
    let was : EnvTable = record {
      value = Some c.in-Table.value;
      force = c.in-Table.force;
      relative =
          c.in-Table.relative;
    } in
    let copy : EnvTable = record {
      value = Some c.in_ok-value-in-Table.value;
      force =
          c.in_ok-force-in-Table.force;
      relative = c.in_ok-relative-in-Table.relative;
    } in
    rw c.in-Table.is (table_copied true env_fields (origin_given c.args.definition) was copy (
      c.in_ok-value-in-Table.ensures.ok,
      (c.in_ok-force-in-Table.ensures.ok, (c.in_ok-relative-in-Table.ensures.ok, tt)),
    ))
