use Rattle.cc2_value.proofs.Mergings.{unmerged_by_gathering}
use Rattle.cc2_value.proofs.merge.Merge.merge.Goals as goal

pub returns-in-Err-clause-refused : goal.returns-in-Err-clause-refused
returns-in-Err-clause-refused g c =
    unmerged_by_gathering g.Self.MergeFrom.cell_at c.args.self c.args.low c.reverse_lists.new.self c.in-Err.error
    c.in_ok-reverse_lists.ensures c.in-Err.ensures.refused
