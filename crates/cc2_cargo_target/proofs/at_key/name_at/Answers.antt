use Rattle.std.proofs.Common.{string_bytes, sym, ◌∙◌}
use Rattle.cc2_cargo_target.proofs.Naming.{front_alone}
use Rattle.cc2_cargo_target.proofs.at_key.name_at.Goals as goal

pub returns-in_ok-from_str : goal.returns-in_ok-from_str
returns-in_ok-from_str c =
    front_alone c.args.machine.now c.args.key.now c.args.what.now (string_bytes c.in_ok-from_str.field-0)
    (sym c.is_any_below.ensures ∙ c.if-is_any_below.false) c.in_ok-from_str.ensures.ok
