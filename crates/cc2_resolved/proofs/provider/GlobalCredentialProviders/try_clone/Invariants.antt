use Rattle.std.proofs.Common.{◌≡◌, take}
use Rattle.cc2_resolved.specs.Providers.{providers_in}
use Rattle.cc2_resolved.proofs.provider.GlobalCredentialProviders.try_clone.Given as goal

abbrev pub invariant-loop-provider : goal.invariant-loop-provider
invariant-loop-provider l = providers_in l.providers.items ≡ providers_in (take l.provider-index l.self.providers.items)
