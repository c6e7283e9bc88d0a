use Rattle.std.proofs.Common.{map, string_bytes}
use Rattle.cc2_cargo.specs.Loads.{layer_of}
use Rattle.cc2_cargo.specs.Raw.{raw_members_at}
use Rattle.cc2_cargo.proofs.Excluding.{has_no_cause}
use Rattle.cc2_cargo.proofs.load.load_paths.Goals as goal

pub returns-in-Ok-merged-clause-exact : goal.returns-in-Ok-merged-clause-exact
returns-in-Ok-merged-clause-exact g c fs told =
    has_no_cause fs (map string_bytes c.args.paths.now) (raw_members_at c.in-Ok-merged.loaded)
    (map layer_of c.in-Ok.layers.items, c.in-Ok.ensures.ok fs told, c.in-Ok-merged.ensures.faultless, c.in-Ok-merged.ensures.ok)
