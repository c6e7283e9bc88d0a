use Rattle.std.proofs.Common.{map, string_bytes, length}
use Rattle.cc2_base.specs.Told.{Keeps, Tree}
use Rattle.cc2_base.specs.ToldPrograms.{Answers}
use Rattle.cc2_answers.specs.Items.{items_of}
use Rattle.cargo_config2.specs.Left.{IsLeft}
use Rattle.cc2_answers.specs.Left.{IsReady}
use Rattle.cc2_answers.proofs.SoFar.{IsSoFar}
use Rattle.cc2_answers.proofs.several.all_lines.Given as goal

-- what the items so far leave, and their lines
abbrev pub invariant-loop-item : goal.invariant-loop-item
invariant-loop-item g l = record {
  left : IsLeft (g.F.Files.told l.files) (g.P.Programs.told l.initial.programs) l.initial.config l.config;
  same : Keeps (g.P.Programs.told l.initial.programs) (g.P.Programs.told l.programs);
  so_far : (fs : Tree) (answers : Answers) → g.F.Files.told l.files fs → g.P.Programs.told l.initial.programs answers
      → IsReady fs answers l.initial.config
      → IsSoFar fs answers l.initial.config (items_of (map string_bytes l.fn.words)) (items_of (map string_bytes l.rest)) l.lines.items;
}

abbrev pub decreases-loop-item : goal.decreases-loop-item
decreases-loop-item g l = length l.rest
