-- What the variables of a machine set by themselves, as JSON.
use Rattle.std.specs.Prelude.{true, false, Option, Some, None}
use Rattle.serde_json.specs.Data.{Data}
use Rattle.cc2_error.specs.Causes.{Refusal}
use Rattle.cc2_base.specs.declared.machine.Machine.{Machine}
use Rattle.cc2_de.specs.Config.{config_at}
use Rattle.cc2_de.specs.declared.config.Config.{Config}
use Rattle.cc2_json.specs.Json.{IsObjectOf}
use Rattle.cc2_json.specs.declared.form.Form.{Form}
use Rattle.cc2_de.specs.VariablesAlone.{IsSetBy, IsVariableCause}

-- each value with where it was set, and no token
abbrev pub with_origins : Form
with_origins = record { origins = true; tokens = false }

-- the JSON is that of what the variables set; or one of them is refused
abbrev pub IsSetJson : Machine → Option Data → Type 0
IsSetJson machine None = (refusal : Refusal) × IsVariableCause machine refusal
IsSetJson machine (Some d) = (config : Config) × IsSetBy machine (config_at config) × IsObjectOf with_origins (config_at config) d
