use Rattle.cc2_findings.proofs.Caused.{caused}
use Rattle.cc2_de.specs.VariablesAlone.{IsVariableCause}
use Rattle.cc2_lint_settings.proofs.hidden_settings.settings_json.Goals as goal

pub returns-in_ok-no_memory_wanted-in-Err : goal.returns-in_ok-no_memory_wanted-in-Err
returns-in_ok-no_memory_wanted-in-Err c =
    caused (IsVariableCause c.args.machine.now) c.in-Err.error c.in-Err.ensures.refused c.in_ok-no_memory_wanted-in-Err.ensures.ok
