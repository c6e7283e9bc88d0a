-- What is hidden by JSON is hidden by cells.
use Rattle.std.proofs.Common.{◌≡◌, List, map, Option, Some, None, Result, Ok, Err, IfOk, inl, inr}
use Rattle.std.specs.declared.alloc.Global.{Global}
use Rattle.std.specs.Prelude.{Vec}
use Rattle.serde_json.specs.Data as json
use Rattle.toml.specs.Data.{Members}
use Rattle.cc2_base.specs.declared.machine.Machine.{Machine}
use Rattle.cc2_error.specs.declared.error.NoMemory.{NoMemory}
use Rattle.cc2_de.specs.Config.{config_at}
use Rattle.cc2_json.proofs.ConfigTokens.{config_arrays, config_values}
use Rattle.cc2_lint_settings.specs.HiddenViews.{hidden_views}
use Rattle.cc2_lint_settings.specs.Keys.{Hidden, AreHidden, hidden_in}
use Rattle.cc2_lint_settings.specs.Setters.{setter_at}
use Rattle.cc2_lint_settings.specs.Settings.{IsSetJson}
use Rattle.cc2_lint_settings.specs.declared.hidden_keys.HiddenKey.{HiddenKey}
use Rattle.cc2_lint_settings.proofs.Setters.{by_cells}

hidden : (machine : Machine) (set : Option json.Data) (files : List Members) (found : List (List Hidden)) → IsSetJson machine set → found ≡ map (hidden_in set) files
    → AreHidden machine files found
hidden machine None files found (refusal, cause) is = inl (refusal, cause, is)
hidden machine (Some d) files found (config, by, object) is =
    inr (config_at config, (λ path. setter_at path d), by, by_cells (config_at config) (config_values config) (config_arrays config) d object, is)

pub are_hidden : (machine : Machine) (set : Option json.Data) (files : List Members) (r : Result (Vec (Vec HiddenKey Global) Global) NoMemory) → IsSetJson machine set
    → IfOk r (λ found. hidden_views found ≡ map (hidden_in set) files) → IfOk r (λ found. AreHidden machine files (hidden_views found))
are_hidden machine set files (Ok found) of is = hidden machine set files (hidden_views found) of is
are_hidden machine set files (Err refused) of is = is
