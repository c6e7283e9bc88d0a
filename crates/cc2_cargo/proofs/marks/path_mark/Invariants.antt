use Rattle.std.proofs.Common.{◌≡◌, ◌++◌, string_bytes}
use Rattle.cc2_base.specs.PathSteps.{components_left}
use Rattle.cc2_cargo.specs.Readings.{ended_by_slashes, path_mark}
use Rattle.cc2_cargo.proofs.marks.path_mark.Given as goal

-- what is made so far, and the components that are left
abbrev pub invariant-loop-component : goal.invariant-loop-component
invariant-loop-component l = string_bytes l.mark ++ ended_by_slashes (components_left l.component-iterator) ≡ path_mark l.path
