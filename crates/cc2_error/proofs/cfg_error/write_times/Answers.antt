use Rattle.std.proofs.Common.{rules}
use Rattle.std.specs.Fmt.{HasWritten}
use Rattle.std.proofs.Output.{has_written_append, has_written_of_eq}
use Rattle.cc2_error.proofs.Repeats.{repeat_more}
use Rattle.cc2_error.proofs.cfg_error.write_times.Goals as goal

pub times-preserved : goal.times-preserved
times-preserved g c = λ p.
    let once : HasWritten g.W.Write.write_str_gives c.times.f c.args.text.now c.write_str.new.self = search rules in
    has_written_of_eq _ _ _ _ _ (repeat_more c.times.counter c.args.text.now)
    (has_written_append _ _ _ _ _ _ (c.times.invariant p) once)
