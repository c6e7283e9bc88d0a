use Rattle.cc2_value.proofs.Gathers.{gathered_next, mixed_next}
use Rattle.cc2_value.proofs.joining.gather_at.Goals as goal

pub returns-in-Ok-gather_option-clause-ok : goal.returns-in-Ok-gather_option-clause-ok
returns-in-Ok-gather_option-clause-ok g c =
    gathered_next g.T.MergeFrom.cell_at c.args.is_reversed c.args.gathered.now c.reverse_if.new.value
    c.args.value.now c.gather_option.new.high c.in-Ok.ensures.ok c.in-Ok-gather_option.ensures.ok

pub returns-in-Err-gather_option-clause-refused : goal.returns-in-Err-gather_option-clause-refused
returns-in-Err-gather_option-clause-refused g c =
    mixed_next g.T.MergeFrom.cell_at c.args.is_reversed c.args.gathered.now c.reverse_if.new.value c.args.value.now
    c.args.place c.in-Err-gather_option.error c.fault_at.result c.fault_at.ensures c.in-Ok.ensures.ok
    c.in-Err-gather_option.ensures.refused
