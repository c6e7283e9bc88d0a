use Rattle.std.proofs.Common.{drop, map}
use Rattle.serde_json.specs.View.{members_view}
use Rattle.cc2_error.specs.Commands.{command_of}
use Rattle.cc2_target_answers.proofs.Putting.{IsSoFar}
use Rattle.cc2_target_answers.proofs.by_cargo.settings_of.Given as goal

abbrev pub invariant-loop-triple : goal.invariant-loop-triple
invariant-loop-triple g l =
    IsSoFar l.sources.settings.now l.sources.machine.now l.dir (command_of l.rustc) (g.P.Programs.told l.fn.programs) (g.P.Programs.told l.programs)
    (map (λ t. t.now) l.triples) (map (λ t. t.now) (drop l.triple-index l.triples)) (members_view l.members.entries)
