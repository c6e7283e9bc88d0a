use Rattle.cc2_leaf.proofs.Reversing.{array_reversed}
use Rattle.cc2_leaf.proofs.listed.reverse_array.Goals as goal

pub returns-in-Array : goal.returns-in-Array
returns-in-Array c = rw c.in-Array.is (array_reversed c.args.list.now c.reverse.new.self c.reverse.ensures.items)
