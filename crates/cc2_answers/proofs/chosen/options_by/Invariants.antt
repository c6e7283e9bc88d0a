use Rattle.std.proofs.Common.{◌≡◌, ◌++◌, map, string_bytes, length}
use Rattle.cc2_env.specs.Options.{chosen_overrides}
use Rattle.cc2_answers.specs.Choices.{ChoosesAlone, overrides_by}
use Rattle.cc2_answers.proofs.chosen.options_by.Given as goal

abbrev pub invariant-loop-rest : goal.invariant-loop-rest
invariant-loop-rest l = record {
  alone : ChoosesAlone (chosen_overrides l.options) l.options;
  so_far : chosen_overrides l.options ++ overrides_by (map string_bytes l.rest) ≡ overrides_by (map string_bytes l.fn.choices);
}

abbrev pub decreases-loop-rest : goal.decreases-loop-rest
decreases-loop-rest l = length l.rest
