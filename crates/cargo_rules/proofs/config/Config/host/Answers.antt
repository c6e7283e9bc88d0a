use Rattle.std.proofs.Common.{◌≡◌, false, string_bytes}
use Rattle.cc2_error.specs.Commands.{command_of}
use Rattle.cc2_rustc.specs.AskedVersions.{rustc_host}
use Rattle.cargo_rules.specs.Configs.{IsAsked}
use Rattle.cargo_rules.proofs.Asking.{asked, gives_one, one_exit, unready}
use Rattle.cargo_rules.proofs.config.Config.host.Goals as goal

pub returns-in_err-rustc : goal.returns-in_err-rustc
returns-in_err-rustc g c own runs =
    let config = c.args.self.now in
    let e = c.in_err-rustc.field-0.0 in
    one_exit string_bytes (IsAsked config (λ rustc answers outcome. outcome ≡ rustc_host false answers rustc) own) c.from_residual-in_err-rustc.result e c.from_residual-in_err-rustc.ensures.1
    (unready config (λ rustc answers outcome. outcome ≡ rustc_host false answers rustc) own (g.S.Runs.Programs.told c.ready.new.programs) e (c.in_err-rustc.ensures own (c.in_ok-programs.ensures own runs).0))

pub returns : goal.returns
returns g c own runs =
    let config = c.args.self.now in
    asked config (λ rustc answers outcome. outcome ≡ rustc_host false answers rustc) own string_bytes _ c.in_ok-rustc.rustc c.host_of_rustc.result (c.in_ok-rustc.ensures own (c.in_ok-programs.ensures own runs).0)
    (λ answers told. gives_one string_bytes (rustc_host false answers (command_of c.in_ok-rustc.rustc)) c.host_of_rustc.result (c.host_of_rustc.ensures.told answers told))
