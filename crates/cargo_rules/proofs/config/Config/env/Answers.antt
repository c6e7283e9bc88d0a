use Rattle.std.proofs.Common.{ℕ, List, subst}
use Rattle.cc2_error.specs.Outcomes.{Gives}
use Rattle.cc2_cargo.specs.Raw.{raw_members_at}
use Rattle.cc2_cargo_settings.specs.EnvVariables.{AreNames, env_variables, variables_view}
use Rattle.cargo_rules.proofs.config.Config.env.Goals as goal

pub returns : goal.returns
returns c =
    let look = raw_members_at c.args.self.now.settings in
    subst (λ (dir : List ℕ). (names : List (List ℕ)) × AreNames look names
    × Gives variables_view c.env_variables.result (env_variables look c.args.self.now.machine dir names)) c.as_str.ensures.value c.env_variables.ensures
