use Rattle.std.proofs.Common.{sym, ap}
use Rattle.std.specs.Option.{is_some}
use Rattle.cc2_env.specs.Options.{variables_of}
use Rattle.cc2_env.proofs.Reading.{on_ok, if_err, browser_read, browser_cause}
use Rattle.cc2_env.proofs.read.read_browser.Goals as goal

pub returns-in-None-clause-ok : goal.returns-in-None-clause-ok
returns-in-None-clause-ok c =
    on_ok c.read_one.result
    (browser_read (variables_of c.args.context.now) c.args.browser.now c.read_one.new.setting
    (sym (ap is_some c.in-None.is)))
    c.read_one.ensures.ok

pub returns-in-None-clause-refused : goal.returns-in-None-clause-refused
returns-in-None-clause-refused c =
    if_err c.read_one.result
    (λ e. browser_cause (variables_of c.args.context.now) c.args.browser.now e (sym (ap is_some c.in-None.is)))
    c.read_one.ensures.refused
