use Rattle.std.proofs.Common.{ℕ, List, Option, Result, sym, subst}
use Rattle.cc2_error.specs.Causes.{Refusal}
use Rattle.cc2_de.specs.LoadFrom.{IsLoadBelow}
use Rattle.cc2_de.proofs.config.Config.load_with_cwd.Goals as goal

pub returns : goal.returns
returns g c fs told =
    subst (λ (home : Result (Option (List ℕ)) Refusal). IsLoadBelow fs c.args.cwd.now home c.load_over.result)
    (sym c.in_ok-home.ensures) (c.load_over.ensures fs told)
