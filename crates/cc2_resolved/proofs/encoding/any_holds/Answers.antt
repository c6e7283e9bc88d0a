use Rattle.std.proofs.Common.{rules, sym}
use Rattle.cc2_resolved.proofs.FlagTexts.{any_holds_at}
use Rattle.cc2_resolved.proofs.encoding.any_holds.Goals as goal

pub returns-then-contains : goal.returns-then-contains
returns-then-contains c =
    sym (any_holds_at c.args.byte c.args.flags.now c.loop-flag.flag-index c.flag-item.result
    c.loop-flag-test.true c.flag-item.is (search rules))
