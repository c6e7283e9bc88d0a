use Rattle.std.proofs.Common.{refl}
use Rattle.cc2_cfg.proofs.Runs.{gives-fronts, gives-whole}
use Rattle.cc2_cfg.proofs.lexer.Lexer.new.Goals as goal

pub returns-clause-fronts : goal.returns-clause-fronts
returns-clause-fronts c = gives-fronts _ refl refl

pub returns-clause-whole : goal.returns-clause-whole
returns-clause-whole c = gives-whole _ refl refl
