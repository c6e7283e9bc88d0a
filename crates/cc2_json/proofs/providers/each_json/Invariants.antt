use Rattle.std.proofs.Common.{◌≡◌, map, take}
use Rattle.serde_json.specs.View.{view}
use Rattle.cc2_leaf.specs.Providers.{setting_of_provider}
use Rattle.cc2_json.specs.Forms.{setting_data}
use Rattle.cc2_json.proofs.providers.each_json.Given as goal

abbrev pub invariant-loop-provider : goal.invariant-loop-provider
invariant-loop-provider l =
    map view l.items.items ≡ map (setting_data l.form.origins) (map setting_of_provider (take l.provider-index l.providers))
