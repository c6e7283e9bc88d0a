use Rattle.std.proofs.Common.{◌≡◌, map, None}
use Rattle.cc2_rustc.specs.Versions.{behind}
use Rattle.cc2_rustc.proofs.lines.behind.Given as goal

abbrev pub invariant-loop-line : goal.invariant-loop-line
invariant-loop-line l = behind l.initial.prefix (map (λ line. line.now) l.yielded) ≡ None
