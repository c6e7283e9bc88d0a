use Rattle.std.proofs.Common.{[], ◌∷◌, refl}
use Rattle.cc2_error.specs.declared.error.Shape.TheVariants.{String, Array}
use Rattle.cc2_value.specs.Gathered.{reversed_at}
use Rattle.cc2_value.specs.Shown.{leaf_at}
use Rattle.cc2_value.proofs.Tables.{refused_here}
use Rattle.cc2_leaf.specs.Lists.{texts_cell, texts_as}
use Rattle.std.proofs.lemmas.Result.{on_ok_weaker}
use Rattle.cc2_leaf.proofs.Reversing.{arrays_gathered}
use Rattle.cc2_leaf.proofs.listed.gather_lists.Goals as goal

pub returns-in-Text-Array-clause-refused : goal.returns-in-Text-Array-clause-refused
returns-in-Text-Array-clause-refused c =
    refused_here (λ l. l)
    (reversed_at (leaf_at texts_cell) (texts_as c.args.reprs.0 c.args.high.now)
    ∷ leaf_at texts_cell (texts_as c.args.reprs.1 c.args.low.now) ∷ []) String Array _
    (rw (c.in-Text-Array.is-0, c.in-Text-Array.is-1) refl) c.mixed.ensures

pub returns-in-Array-Text-clause-refused : goal.returns-in-Array-Text-clause-refused
returns-in-Array-Text-clause-refused c =
    refused_here (λ l. l)
    (reversed_at (leaf_at texts_cell) (texts_as c.args.reprs.0 c.args.high.now)
    ∷ leaf_at texts_cell (texts_as c.args.reprs.1 c.args.low.now) ∷ []) Array String _
    (rw (c.in-Array-Text.is-0, c.in-Array-Text.is-1) refl) c.mixed-in-Array-Text.ensures

pub returns-in-Array-Array-clause-ok : goal.returns-in-Array-Array-clause-ok
returns-in-Array-Array-clause-ok c =
    rw (c.in-Array-Array.is-0, c.in-Array-Array.is-1) (on_ok_weaker c.append_reversed.result
    (arrays_gathered c.args.high.now c.args.low.now c.append_reversed.new.list) c.append_reversed.ensures.ok)
