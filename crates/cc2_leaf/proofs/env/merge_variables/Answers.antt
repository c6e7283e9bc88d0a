use Rattle.std.proofs.Common.{[], ◌∷◌, refl}
use Rattle.cc2_error.specs.declared.error.Shape.TheVariants.{String, Table}
use Rattle.cc2_value.proofs.Tables.{refused_here}
use Rattle.cc2_leaf.specs.Env.{env_at}
use Rattle.cc2_leaf.proofs.Envs.{tables_joined}
use Rattle.cc2_leaf.proofs.env.merge_variables.Goals as goal

pub returns-in-Value-Table-clause-refused : goal.returns-in-Value-Table-clause-refused
returns-in-Value-Table-clause-refused c =
    refused_here env_at (c.args.high.now ∷ c.args.low.now ∷ []) String Table _
    (rw (c.in-Value-Table.is-0, c.in-Value-Table.is-1) refl) c.mixed.ensures

pub returns-in-Table-Table-clause-ok : goal.returns-in-Table-Table-clause-ok
returns-in-Table-Table-clause-ok c =
    let w = c.in-Table-Table in
    rw (w.is-0, w.is-1) (tables_joined w.value-0 w.value-1 w.force w.low_force w.relative w.low_relative
    c.keep_first.new.high c.keep_first-in-Table-Table.new.high c.keep_first.ensures
    c.keep_first-in-Table-Table.ensures)

pub returns-in-Table-Value-clause-refused : goal.returns-in-Table-Value-clause-refused
returns-in-Table-Value-clause-refused c =
    refused_here env_at (c.args.high.now ∷ c.args.low.now ∷ []) Table String _
    (rw (c.in-Table-Value.is-0, c.in-Table-Value.is-1) refl) c.mixed-in-Table-Value.ensures
