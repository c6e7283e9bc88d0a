use Rattle.std.proofs.Common.{map, string_bytes, inr}
use Rattle.cc2_cargo.specs.Loads.{layer_of}
use Rattle.cc2_cargo.specs.Raw.{raw_members_at}
use Rattle.cc2_cargo.proofs.Sole.{has_no_cause_with}
use Rattle.cc2_cargo.proofs.load.load_with.Goals as goal

pub returns-in-Ok-merged-clause-exact : goal.returns-in-Ok-merged-clause-exact
returns-in-Ok-merged-clause-exact g c fs told =
    let own = map layer_of c.in_ok-own.own.items in
    let files = map layer_of c.in-Ok.layers.items in
    has_no_cause_with fs c.args.dir.now (map string_bytes c.args.paths.now) (map string_bytes c.args.overrides.now) (raw_members_at c.in-Ok-merged.settings) (
      map layer_of c.in_ok-over.field-0.items,
      (own, files, c.in_ok-over.ensures, c.in_ok-own.ensures.ok fs told, c.in-Ok.ensures.ok fs told),
      c.in-Ok-merged.ensures.faultless,
      c.in-Ok-merged.ensures.ok,
    )

pub returns-in-Err-merged-clause-refused : goal.returns-in-Err-merged-clause-refused
returns-in-Err-merged-clause-refused g c fs told =
    let own = map layer_of c.in_ok-own.own.items in
    let files = map layer_of c.in-Ok.layers.items in
    inr (inr (
      map layer_of c.in_ok-over.field-0.items,
      (own, files, c.in_ok-over.ensures, c.in_ok-own.ensures.ok fs told, c.in-Ok.ensures.ok fs told),
      c.in-Err-merged.ensures.refused,
    ))
