use Rattle.std.proofs.Common.{◌≡◌, false, map, take}
use Rattle.serde_json.specs.View.{view}
use Rattle.cc2_json.specs.Forms.{setting_data}
use Rattle.cc2_resolved.specs.Providers.{providers_in}
use Rattle.cc2_resolved_json.specs.Plain.{provider_setting}
use Rattle.cc2_resolved_json.proofs.provider.each_json.Given as goal

abbrev pub invariant-loop-provider : goal.invariant-loop-provider
invariant-loop-provider l =
    map view l.items.items ≡ map (setting_data false) (map provider_setting (providers_in (take l.provider-index l.providers)))
