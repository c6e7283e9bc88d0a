use Rattle.std.proofs.Common.{sym, ◌∙◌}
use Rattle.cc2_cargo.proofs.Asking.{ask-value, ask-again}
use Rattle.cc2_cargo.proofs.cfg_reader.value_of.Goals as goal

pub returns-in-None-clause-value : goal.returns-in-None-clause-value
returns-in-None-clause-value g c =
    λ known asked again among. ask-value g.F.FnMut asked _ _ _ _ known c.holds.ensures
    (sym c.constant.ensures ∙ c.in-None.is) again among

pub returns-in-None-clause-again : goal.returns-in-None-clause-again
returns-in-None-clause-again g c =
    λ known asked again among. ask-again g.F.FnMut asked _ _ _ _ known c.holds.ensures again among
