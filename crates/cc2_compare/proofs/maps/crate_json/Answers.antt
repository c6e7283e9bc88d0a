use Rattle.serde_json.specs.View.{view}
use Rattle.cc2_de.specs.Config.{config_at}
use Rattle.cc2_json.proofs.Floats.{is_free}
use Rattle.cc2_compare.specs.Maps.{form}
use Rattle.cc2_compare.proofs.maps.crate_json.Goals as goal

pub returns-clause-told : goal.returns-clause-told
returns-clause-told g c fs files =
    let told = c.in_ok-configured.ensures fs files in
    ((config_at c.in_ok-configured.configured.config, told.0, c.in_ok-to_json.ensures.json), told.1)

pub returns-clause-free : goal.returns-clause-free
returns-clause-free g c =
    is_free form (config_at c.in_ok-configured.configured.config) (view c.in_ok-to_json.field-0) c.in_ok-to_json.ensures.json
