use Rattle.std.proofs.Common.{◌≡◌, false, length, map}
use Rattle.serde_json.specs.View.{members_view}
use Rattle.serde_json.specs.Written.{members_have_float}
use Rattle.cc2_base.specs.Told.{Keeps, Tree}
use Rattle.cc2_base.specs.ToldPrograms.{Answers}
use Rattle.cc2_resolved.specs.ShownTargets.{target_at}
use Rattle.cargo_config2.specs.Kept.{given_of}
use Rattle.cargo_config2.specs.Left.{IsLeft}
use Rattle.cargo_config2.specs.RustcKept.{rustc_command_of}
use Rattle.cc2_answers.specs.Left.{IsReady}
use Rattle.cc2_target_answers.proofs.Found.{IsSoFar}
use Rattle.cc2_target_answers.proofs.by_crate.settings_of.Given as goal

-- what the targets so far leave, and their settings
abbrev pub invariant-loop-rest : goal.invariant-loop-rest
invariant-loop-rest g l = record {
  left : IsLeft (g.F.Files.told l.files) (g.P.Programs.told l.initial.programs) l.initial.config l.config;
  same : Keeps (g.P.Programs.told l.initial.programs) (g.P.Programs.told l.programs);
  free : members_have_float (members_view l.members.entries) ≡ false;
  so_far : (fs : Tree) (answers : Answers) → g.F.Files.told l.files fs → g.P.Programs.told l.initial.programs answers
      → IsReady fs answers l.initial.config
      → IsSoFar (given_of l.initial.config) (rustc_command_of fs l.initial.config) answers (map target_at l.fn.targets) (map target_at l.rest)
      (members_view l.members.entries);
}

abbrev pub decreases-loop-rest : goal.decreases-loop-rest
decreases-loop-rest g l = length l.rest
