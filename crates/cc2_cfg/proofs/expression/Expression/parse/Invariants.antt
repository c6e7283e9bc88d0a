use Rattle.std.proofs.Common.{◌≡◌, length}
use Rattle.std.specs.Prelude.{false}
use Rattle.cc2_cfg.specs.Machine.{State}
use Rattle.cc2_cfg.specs.Reading.{Represents}
use Rattle.cc2_cfg.proofs.Accepting.{Going}
use Rattle.cc2_cfg.proofs.expression.Expression.parse.Given as goal

abbrev pub invariant-tokens : goal.invariant-tokens
invariant-tokens l = (l.lexer.ended ≡ false) × ((s : State) × Represents l.parser s × Going l.initial.lexer.rest.now l.lexer.rest.now s)

abbrev pub decreases-tokens : goal.decreases-tokens
decreases-tokens l = length l.lexer.rest.now
