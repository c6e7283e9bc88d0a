use Rattle.cc2_leaf.proofs.Reversing.{providers_reversed}
use Rattle.cc2_leaf.proofs.providers.GlobalCredentialProvidersMergeFrom.reverse_lists.Goals as goal

pub returns : goal.returns
returns c = providers_reversed c.args.self.now (record { providers = c.reverse.new.self }) c.reverse.ensures.items
