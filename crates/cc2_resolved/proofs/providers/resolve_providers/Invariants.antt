use Rattle.std.proofs.Common.{◌≡◌, map}
use Rattle.std.specs.Vec.Iter.{into_iter_items}
use Rattle.cc2_leaf.specs.Providers.{setting_of_provider}
use Rattle.cc2_resolved.specs.Answers.{each_provider}
use Rattle.cc2_resolved.specs.Resolving.{provider_in}
use Rattle.cc2_resolved.specs.Sites.{site_of}
use Rattle.cc2_resolved.specs.Turns.{in_turn}
use Rattle.cc2_resolved.proofs.Turns.{behind}
use Rattle.cc2_resolved.proofs.providers.resolve_providers.Given as goal

abbrev pub invariant-loop-provider : goal.invariant-loop-provider
invariant-loop-provider l =
    in_turn (λ s. provider_in (site_of l.place) s.payload) (map setting_of_provider l.fn.providers.items)
    ≡ behind (each_provider l.resolved)
    (in_turn (λ s. provider_in (site_of l.place) s.payload) (map setting_of_provider (into_iter_items l.provider-iterator)))
