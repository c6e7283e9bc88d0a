use Rattle.std.proofs.Common.{◌≡◌, map, string_bytes}
use Rattle.cc2_error.specs.Commands.{command_of}
use Rattle.cc2_cargo.specs.Raw.{raw_members_at}
use Rattle.cc2_cargo_target.specs.Targets.{targets_of}
use Rattle.cargo_rules.specs.Configs.{IsAsked}
use Rattle.cargo_rules.proofs.Asking.{asked, gives_one, one_exit, unready}
use Rattle.cargo_rules.proofs.config.Config.targets.Goals as goal

pub returns-in_err-rustc : goal.returns-in_err-rustc
returns-in_err-rustc g c own runs =
    let config = c.args.self.now in
    let e = c.in_err-rustc.field-0.0 in
    one_exit (λ triples. map string_bytes triples.items) (IsAsked config (λ rustc answers outcome. outcome ≡ targets_of (raw_members_at config.settings) config.machine rustc answers (map (λ text. text.now) c.args.texts.now)) own) c.from_residual-in_err-rustc.result e c.from_residual-in_err-rustc.ensures.1
    (unready config (λ rustc answers outcome. outcome ≡ targets_of (raw_members_at config.settings) config.machine rustc answers (map (λ text. text.now) c.args.texts.now)) own (g.S.Runs.Programs.told c.ready.new.programs) e (c.in_err-rustc.ensures own (c.in_ok-programs.ensures own runs).0))

pub returns : goal.returns
returns g c own runs =
    let config = c.args.self.now in
    asked config (λ rustc answers outcome. outcome ≡ targets_of (raw_members_at config.settings) config.machine rustc answers (map (λ text. text.now) c.args.texts.now)) own (λ triples. map string_bytes triples.items) _ c.in_ok-rustc.rustc c.targets_by_cargo.result (c.in_ok-rustc.ensures own (c.in_ok-programs.ensures own runs).0)
    (λ answers told. gives_one (λ triples. map string_bytes triples.items)
    (targets_of (raw_members_at config.settings) config.machine (command_of c.in_ok-rustc.rustc) answers (map (λ text. text.now) c.args.texts.now))
    c.targets_by_cargo.result (c.targets_by_cargo.ensures.told answers told))
