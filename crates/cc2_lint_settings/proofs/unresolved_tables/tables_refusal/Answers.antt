use Rattle.std.proofs.Common.{ℕ, List, subst}
use Rattle.std.proofs.lemmas.Result.{IfOk-weaker}
use Rattle.cc2_de.specs.Config.{config_at}
use Rattle.cc2_lint_settings.specs.Errors.{IsErrorOf}
use Rattle.cc2_lint_settings.specs.Resolving.{IsTablesRefusal}
use Rattle.cc2_lint_settings.proofs.Refusals.{resolved}
use Rattle.cc2_lint_settings.proofs.unresolved_tables.tables_refusal.Goals as goal

pub returns : goal.returns
returns c =
    let m = config_at c.args.config in
    IfOk-weaker c.refused.result (IsErrorOf c.resolve.result) (IsTablesRefusal c.args.directory.now m)
    (λ e error. subst (λ (dir : List ℕ). IsTablesRefusal dir m e) c.in_ok-context.ensures
    (resolved (record { config = c.args.config; context = c.in_ok-context.context }) c.resolve.result e c.resolve.ensures error))
    c.refused.ensures
