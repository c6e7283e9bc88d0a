use Rattle.std.proofs.lemmas.Result.{IfOk-weaker}
use Rattle.cc2_value.proofs.Copies.{same_from_copy}
use Rattle.cc2_value.proofs.try_clone.TryClone.try_clone.Goals as goal

pub returns-clause-ok : goal.returns-clause-ok
returns-clause-ok g c =
    IfOk-weaker c.copied.result _ _ (same_from_copy g.Self.TryClone.shown c.args.self.now) c.copied.ensures.ok
