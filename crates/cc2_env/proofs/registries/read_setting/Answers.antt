use Rattle.std.proofs.Common.{◌≡◌, ℕ, List, OnOk, subst, ◌∙◌}
use Rattle.cc2_value.specs.Shown.{option_at}
use Rattle.cc2_env.specs.Options.{variables_of}
use Rattle.cc2_env.specs.Ranked.{IsRanked}
use Rattle.cc2_env.specs.Ranks.{one_by, registry_variable}
use Rattle.cc2_env.proofs.registries.read_setting.Goals as goal

pub returns-clause-ok : goal.returns-clause-ok
returns-clause-ok g c =
    let named : c.as_str.result.now ≡ registry_variable c.args.registry.now c.args.suffix.now =
    c.as_str.ensures.value ∙ c.in_ok-name.ensures in
    subst (λ (name : List ℕ). OnOk c.read_one.result
    (IsRanked (option_at g.T.MergeFrom.cell_at) (one_by g.T.ReadEnv.text_way name) (variables_of c.args.context.now)
    c.args.setting.now c.read_one.new.setting)) named
    c.read_one.ensures.ok
