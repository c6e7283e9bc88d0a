use Rattle.std.proofs.Common.{sym, ◌∙◌}
use Rattle.cc2_cargo.specs.Raw.{raw_members_at}
use Rattle.cc2_cargo_target.proofs.Plain.{plain_read}
use Rattle.cc2_cargo_target.proofs.at_key.plain_flags_at.Goals as goal

pub returns : goal.returns
returns c =
    plain_read (raw_members_at c.args.sources.settings.now) c.args.sources.machine.now c.args.key.now c.array_texts.result
    (sym c.is_any_below.ensures ∙ c.if-is_any_below.false) c.array_texts.ensures
