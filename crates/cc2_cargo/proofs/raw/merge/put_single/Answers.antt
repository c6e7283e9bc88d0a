use Rattle.std.proofs.Common.{refl}
use Rattle.cc2_cargo.specs.Places.{commands_from}
use Rattle.cc2_cargo.specs.declared.raw.Raw.TheBlock.{Single as single}
use Rattle.cc2_cargo.proofs.Merges.{differ_here, singles_over}
use Rattle.cc2_cargo.proofs.Raws.{array_here, single_here, table_here}
use Rattle.cc2_cargo.proofs.raw.merge.put_single.Goals as goal

pub returns-in-Single-clause-ok : goal.returns-in-Single-clause-ok
returns-in-Single-clause-ok c same = rw c.in-Single.is (singles_over (commands_from c.args.place) c.args.value c.in-Single.field-0)

pub returns-in-Array-clause-refused : goal.returns-in-Array-clause-refused
returns-in-Array-clause-refused c same =
    let e = c.differ.ensures.refused in (
      e.0,
      e.1,
      differ_here (commands_from c.args.place) (single c.args.value) c.args.weak.now _ _ _ _ e.0 (single_here (single c.args.value) c.args.value refl)
          (array_here c.args.weak.now c.in-Array.field-0 c.in-Array.is) refl e.2,
    )

pub returns-in-Table-clause-refused : goal.returns-in-Table-clause-refused
returns-in-Table-clause-refused c same =
    let e = c.differ-in-Table.ensures.refused in (
      e.0,
      e.1,
      differ_here (commands_from c.args.place) (single c.args.value) c.args.weak.now _ _ _ _ e.0 (single_here (single c.args.value) c.args.value refl)
          (table_here c.args.weak.now c.in-Table.field-0 c.in-Table.is) refl e.2,
    )
