use Rattle.std.proofs.Common.{[], ◌∷◌, codes}
use Rattle.cc2_value.specs.Cells.{field}
use Rattle.cc2_value.specs.Ways.{ill_typed, below}
use Rattle.cc2_value.proofs.Decoded.{fault_below, fault_behind}
use Rattle.cc2_leaf.proofs.env.no_value.Goals as goal

pub returns : goal.returns
returns c =
    fault_behind c.args.key.now (below (field (codes "value")) (([], ill_typed) ∷ []))
    c.wrong_type.result c.below.result c.below.ensures
    (fault_below (field (codes "value")) (([], ill_typed) ∷ []) c.wrong_type.result c.wrong_type.ensures)
