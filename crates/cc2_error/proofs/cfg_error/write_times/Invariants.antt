use Rattle.std.specs.List.{repeat}
use Rattle.std.specs.Fmt.{HasWritten, IsPlainFormatter}
use Rattle.cc2_error.proofs.cfg_error.write_times.Given as goal

abbrev pub invariant-times : goal.invariant-times
invariant-times g l =
    IsPlainFormatter l.initial.f → HasWritten g.W.Write.write_str_gives l.initial.f (repeat l.counter l.text) l.f
