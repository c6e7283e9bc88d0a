use Rattle.std.proofs.Common.{ℕ, List, ap, ◌∙◌}
use Rattle.cc2_error.specs.Causes.{plain, env_parse}
use Rattle.cc2_leaf.specs.TextWays as way
use Rattle.cc2_leaf.proofs.TextFaults.{fault_alone}
use Rattle.cc2_leaf.proofs.read_env.unparsed.Goals as goal

pub returns-in-Ok : goal.returns-in-Ok
returns-in-Ok c =
    let must = c.args.must.now in
    fault_alone (way.unparsed must c.args.text.now) c.new.result
    (c.new.ensures ∙ ap (λ (text : List ℕ). plain (env_parse must text)) c.in-Ok.ensures.ok)
