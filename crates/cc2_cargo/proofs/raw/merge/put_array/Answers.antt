use Rattle.std.proofs.Common.{refl}
use Rattle.cc2_cargo.specs.Places.{commands_from}
use Rattle.cc2_cargo.specs.declared.raw.Raw.TheBlock.{Array as array}
use Rattle.cc2_cargo.proofs.Merges.{differ_here}
use Rattle.cc2_cargo.proofs.Raws.{array_here, single_here, table_here}
use Rattle.cc2_cargo.proofs.raw.merge.put_array.Goals as goal

pub returns-in-Table-clause-refused : goal.returns-in-Table-clause-refused
returns-in-Table-clause-refused c same =
    let e = c.differ.ensures.refused in (
      e.0,
      e.1,
      differ_here (commands_from c.args.place) (array c.args.strong) c.args.weak.now _ _ _ _ e.0 (array_here (array c.args.strong) c.args.strong refl)
          (table_here c.args.weak.now c.in-Table.field-0 c.in-Table.is) refl e.2,
    )

pub returns-in-Single-clause-refused : goal.returns-in-Single-clause-refused
returns-in-Single-clause-refused c same =
    let e = c.differ-in-Single.ensures.refused in (
      e.0,
      e.1,
      differ_here (commands_from c.args.place) (array c.args.strong) c.args.weak.now _ _ _ _ e.0 (array_here (array c.args.strong) c.args.strong refl)
          (single_here c.args.weak.now c.in-Single.field-0 c.in-Single.is) refl e.2,
    )
