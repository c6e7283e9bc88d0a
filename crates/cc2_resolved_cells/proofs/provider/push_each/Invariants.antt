use Rattle.std.proofs.Common.{◌≡◌, ◌++◌, map, drop}
use Rattle.cc2_resolved.specs.Providers.{providers_in}
use Rattle.cc2_resolved_cells.specs.Bytes.{items_bytes}
use Rattle.cc2_resolved_cells.specs.Short.{AreShortItems}
use Rattle.cc2_resolved_cells.specs.Values.{provider_item}
use Rattle.cc2_resolved_cells.proofs.provider.push_each.Given as goal

-- where the providers that are left are short, all are
abbrev pub invariant-loop-provider : goal.invariant-loop-provider
invariant-loop-provider l = record {
  bytes : l.out.items ++ items_bytes (map provider_item (providers_in (drop l.provider-index l.providers)))
      ≡ l.initial.out.items ++ items_bytes (map provider_item (providers_in l.providers));
  short : AreShortItems (map provider_item (providers_in (drop l.provider-index l.providers)))
      → AreShortItems (map provider_item (providers_in l.providers));
}
