use Rattle.std.proofs.Common.{◌≡◌, ◌≤◌, length}
use Rattle.cc2_base.specs.Told.{WhereTold}
use Rattle.cc2_base.specs.PathSteps.{ancestors_left}
use Rattle.cc2_base.specs.Walked.{left, home_count}
use Rattle.cc2_base.proofs.walk.Walk.next_of_dirs.Given as goal

abbrev pub invariant-loop-dir : goal.invariant-loop-dir
invariant-loop-dir g l = record {
  same_left : WhereTold (g.F.Files.told l.initial.self.files.now) (λ fs. left l.initial.self fs ≡ left l.self fs);
  files : l.self.files ≡ l.initial.self.files;
  fewer : length (ancestors_left l.self.ancestors) ≤ length (ancestors_left l.initial.self.ancestors);
  homes : home_count l.self.home ≤ home_count l.initial.self.home;
}

abbrev pub decreases-loop-dir : goal.decreases-loop-dir
decreases-loop-dir g l = length (ancestors_left l.self.ancestors)
