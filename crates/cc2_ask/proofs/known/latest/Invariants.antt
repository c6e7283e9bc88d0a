use Rattle.std.proofs.Common.{◌≡◌, map, option_map, string_bytes, take}
use Rattle.cc2_base.specs.ToldPrograms.{output_of}
use Rattle.cc2_ask.specs.Views.{runs_in}
use Rattle.cc2_ask.proofs.known.latest.Given as goal

abbrev pub invariant-loop-ran : goal.invariant-loop-ran
invariant-loop-ran l =
    option_map (λ answer. output_of answer.now) l.found
    ≡ runs_in (take l.ran-index l.runs) l.program (map string_bytes l.args)
