use Rattle.std.proofs.Common.{ap, sym, ◌∙◌, ◌∷◌}
use Rattle.cc2_cargo.specs.Places.{commands_from}
use Rattle.cc2_cargo.specs.declared.raw.command.Place.{Place}
use Rattle.cc2_cargo.proofs.Commands.{below_top}
use Rattle.cc2_cargo.proofs.raw.command.Place.below.Goals as goal

pub returns-in-Top : goal.returns-in-Top
returns-in-Top c p = ap (λ (x : Place). commands_from x p) c.top_below.ensures ∙ below_top c.args.key.now p
    ∙ ap (λ (x : Place). commands_from x (c.args.key.now ∷ p)) (sym c.in-Top.is)
