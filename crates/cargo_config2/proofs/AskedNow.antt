-- Who the code asks is whom the definitions ask.
use Rattle.std.proofs.Common.{◌≡◌, ℕ, List, Option, option_map, string_bytes, ap, ◌∙◌}
use Rattle.std.specs.Borrow.{Bor}
use Rattle.std.specs.Option.{option_copied}
use Rattle.cc2_base.specs.Told.{Tree}
use Rattle.cc2_rustc.specs.Asked.{asks}
use Rattle.cargo_config2.specs.Kept.{asked_by}
use Rattle.cc2_rustc.specs.declared.commands.Commands.{Commands}
use Rattle.cargo_config2.specs.declared.config.Config.{Config}

pub asked_now : (fs : Tree) (c : Config) (host : Option (Bor (List ℕ))) (commands : Commands)
    → option_map (λ h. h.now) host ≡ option_map string_bytes c.loaded.context.host_triple
    → asks (asked_by fs c).host commands ≡ asked_by fs c → asks (option_copied host) commands ≡ asked_by fs c
asked_now fs c host commands chosen is = ap (λ h. asks h commands) chosen ∙ is
