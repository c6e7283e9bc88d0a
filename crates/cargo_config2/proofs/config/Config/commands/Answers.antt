use Rattle.std.proofs.Common.{◌≡◌, ℕ, List, Option, option_map, string_bytes, ap, ◌∙◌}
use Rattle.std.proofs.lemmas.Result.{IfOk-weaker}
use Rattle.std.specs.Option.{option_copied}
use Rattle.cc2_rustc.specs.Asked.{asks, asked_for}
use Rattle.cc2_rustc.specs.Rustc.{Settings}
use Rattle.cc2_rustc.specs.RustcParts.{settings_of}
use Rattle.cargo_config2.specs.Kept.{asked_by}
use Rattle.cargo_config2.specs.RustcKept.{rustc_settings}
use Rattle.cargo_config2.proofs.config.Config.commands.Goals as goal

pub returns-clause-told : goal.returns-clause-told
returns-clause-told g c fs files =
    let was = c.args.self.now in
    let host = option_map string_bytes was.loaded.context.host_triple in
    let settings = settings_of c.parts_of-parts.result in
    let bootstrap = option_copied c.env_value.result in
    let stated : asked_for fs host settings bootstrap ≡ asked_by fs was =
    ap (λ (s : Settings). asked_for fs host s bootstrap) c.parts_of-parts.ensures
    ∙ ap (asked_for fs host (rustc_settings was)) c.env_value.ensures in
    IfOk-weaker c.of.result (λ commands. (h : Option (List ℕ)) → asks h commands ≡ asked_for fs h settings bootstrap)
    (λ commands. asks host commands ≡ asked_by fs was) (λ commands is. is host ∙ stated) (c.of.ensures.told fs files)
