use Rattle.std.proofs.Common.{Some, Ok, sym, ap, ◌∙◌}
use Rattle.cc2_cargo_settings.specs.Changes.{own_bytes}
use Rattle.cc2_cargo_settings.proofs.change.own_bytes.Goals as goal

pub returns-in_ok-flag_by-in-Flag : goal.returns-in_ok-flag_by-in-Flag
returns-in_ok-flag_by-in-Flag c =
    ap (λ k. own_bytes k c.args.name.now c.args.bytes.now) c.in-Flag.is ∙ ap (λ x. Ok (Some x)) (sym c.in_ok-flag_by-in-Flag.ensures)
