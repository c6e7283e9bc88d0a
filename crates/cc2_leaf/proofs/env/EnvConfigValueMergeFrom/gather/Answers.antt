use Rattle.std.proofs.lemmas.Result.{on_ok_weaker, IfErr-weaker}
use Rattle.cc2_value.proofs.Mergings.{unlisted_gathered, unlisted_ungathered}
use Rattle.cc2_leaf.specs.Env.{env_at}
use Rattle.cc2_leaf.proofs.Envs.{unlisted}
use Rattle.cc2_leaf.proofs.env.EnvConfigValueMergeFrom.gather.Goals as goal

pub returns-clause-ok : goal.returns-clause-ok
returns-clause-ok c =
    on_ok_weaker c.merge_variables.result (unlisted_gathered env_at c.args.self.now c.args.low.now _ unlisted) c.merge_variables.ensures.ok

pub returns-clause-refused : goal.returns-clause-refused
returns-clause-refused c =
    IfErr-weaker c.merge_variables.result _ _ (λ e. unlisted_ungathered env_at c.args.self.now c.args.low.now e unlisted) c.merge_variables.ensures.refused
