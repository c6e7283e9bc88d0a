use Rattle.std.proofs.Common.{map, string_bytes}
use Rattle.cc2_error.specs.Commands.{command_of}
use Rattle.cc2_resolved.specs.ShownFlags.{flag_texts}
use Rattle.cc2_cargo_target.proofs.Settling.{known}
use Rattle.cc2_cargo_target.proofs.settle.matching_with.Goals as goal

pub returns-clause-matches : goal.returns-clause-matches
returns-clause-matches g c answers world =
    let asked = c.in_ok-matching.field-0 in
    known (command_of c.args.rustc.now) answers c.args.triple.now (map (λ k. k.now) c.args.keys.now) (flag_texts c.args.flags.now)
    (string_bytes asked.printed) (map (λ k. k.now) asked.matching.items)
    (c.in_ok-matching.ensures.told answers world) c.in_ok-matching.ensures.matching
