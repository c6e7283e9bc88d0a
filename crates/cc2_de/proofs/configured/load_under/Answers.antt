use Rattle.cc2_de.proofs.Chosen.{configured, unconfigured}
use Rattle.cc2_de.proofs.configured.load_under.Goals as goal

pub returns-in-Ok : goal.returns-in-Ok
returns-in-Ok g c fs told =
    configured fs c.args.options c.args.machine.now c.args.cwd.now c.in_ok-place.place
    c.in_ok-place.ensures.ok c.in_ok-context.context
    c.in_ok-context.ensures.ok c.in-Ok.config c.load_in.result c.in-Ok.is (c.load_in.ensures fs told)

pub returns-in-Err : goal.returns-in-Err
returns-in-Err g c fs told =
    unconfigured fs c.args.options c.args.machine.now c.args.cwd.now c.in_ok-place.place
    c.in_ok-place.ensures.ok c.in_ok-context.context
    c.in_ok-context.ensures.ok c.in-Err.error c.load_in.result c.in-Err.is (c.load_in.ensures fs told)
