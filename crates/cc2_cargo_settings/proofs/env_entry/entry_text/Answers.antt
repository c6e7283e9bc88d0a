use Rattle.std.proofs.Common.{sym, ◌∙◌}
use Rattle.std.specs.Prelude.{codes}
use Rattle.cc2_cargo_settings.proofs.Unset.{no_text}
use Rattle.cc2_cargo_settings.proofs.env_entry.entry_text.Goals as goal

pub returns-then-not-is_any_below : goal.returns-then-not-is_any_below
returns-then-not-is_any_below c =
    sym (no_text (codes "CARGO_ENV_") c.args.name.now c.args.machine.now (sym c.is_any_below.ensures ∙ c.if-not-is_any_below.true))
