use Rattle.std.proofs.Common.{string_bytes}
use Rattle.cc2_cargo_target.specs.Target.{IsTarget}
use Rattle.cc2_resolved.specs.TargetConfigs.{shown}
use Rattle.cargo_rules.specs.Configs.{IsAsked}
use Rattle.cargo_rules.proofs.Asking.{asked, one_exit, unready}
use Rattle.cargo_rules.proofs.config.Config.target.Goals as goal

pub returns-in_err-rustc : goal.returns-in_err-rustc
returns-in_err-rustc g c own runs =
    let config = c.args.self.now in
    let e = c.in_err-rustc.field-0.0 in
    one_exit shown (IsAsked config (λ rustc answers outcome. IsTarget config.settings config.machine (string_bytes config.dir) c.args.triple.now rustc answers outcome) own) c.from_residual-in_err-rustc.result e c.from_residual-in_err-rustc.ensures.1
    (unready config (λ rustc answers outcome. IsTarget config.settings config.machine (string_bytes config.dir) c.args.triple.now rustc answers outcome) own (g.S.Runs.Programs.told c.ready.new.programs) e (c.in_err-rustc.ensures own (c.in_ok-programs.ensures own runs).0))

pub returns : goal.returns
returns g c own runs =
    let config = c.args.self.now in
    asked config (λ rustc answers outcome. IsTarget config.settings config.machine (string_bytes config.dir) c.args.triple.now rustc answers outcome) own shown _ c.in_ok-rustc.rustc c.target_by_cargo.result (c.in_ok-rustc.ensures own (c.in_ok-programs.ensures own runs).0)
    (λ answers told. rw c.as_str.ensures.value at (c.target_by_cargo.ensures.target answers told))
