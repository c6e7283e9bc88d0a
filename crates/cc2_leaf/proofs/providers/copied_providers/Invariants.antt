use Rattle.std.proofs.Common.{◌≡◌, map, take}
use Rattle.cc2_value.specs.Copies.{origin_given, setting_set}
use Rattle.cc2_leaf.specs.Providers.{setting_of_provider}
use Rattle.cc2_leaf.proofs.providers.copied_providers.Given as goal

abbrev pub invariant-loop-provider : goal.invariant-loop-provider
invariant-loop-provider l =
    map setting_of_provider l.copies.items ≡ map (setting_set (origin_given l.definition)) (map setting_of_provider (take l.provider-index l.providers))
