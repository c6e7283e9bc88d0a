use Rattle.std.proofs.Common.{refl, sym, ◌∙◌}
use Rattle.cc2_cargo.proofs.Steps.{close-step, popped-none}
use Rattle.cc2_cargo.proofs.cfg_reader.Reader.close.Goals as goal

pub returns : goal.returns
returns c =
    λ known s rep. close-step known s c.args.self.now _ c.in-Some.value rep (sym c.ending.ensures ∙ c.in-Some.is)
    c.pop-self.ensures.items (popped-none c.pop-self.result c.pop-self.new.self _ _ c.pop-self.ensures.cases) refl
