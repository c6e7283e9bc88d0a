use Rattle.std.proofs.lemmas.Result.{on_ok_weaker}
use Rattle.cc2_leaf.proofs.Reversing.{providers_gathered}
use Rattle.cc2_leaf.proofs.providers.GlobalCredentialProvidersMergeFrom.gather.Goals as goal

pub returns-clause-ok : goal.returns-clause-ok
returns-clause-ok c =
    on_ok_weaker c.append_reversed.result
    (providers_gathered c.args.self.now c.args.low.now (record { providers = c.append_reversed.new.list })) c.append_reversed.ensures.ok
