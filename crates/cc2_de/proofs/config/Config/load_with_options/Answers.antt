use Rattle.std.proofs.Common.{ℕ, List, Option, subst}
use Rattle.cc2_base.specs.Walked.{walked}
use Rattle.cc2_de.specs.LoadFrom.{IsLoadOf}
use Rattle.cc2_de.proofs.config.Config.load_with_options.Goals as goal

pub returns : goal.returns
returns g c fs told =
    subst (λ (home : Option (List ℕ)). IsLoadOf fs (walked fs c.args.cwd.now home) c.load_over.result)
    c.in_ok-home.ensures.ok (c.load_over.ensures fs told)
