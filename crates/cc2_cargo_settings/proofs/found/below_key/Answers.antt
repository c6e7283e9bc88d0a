use Rattle.std.proofs.Common.{◌∷◌, map, refl, ap, sym, ◌∙◌}
use Rattle.cc2_cargo.specs.Raw as cell
use Rattle.cc2_cargo.specs.Raw.{raw_members_at, raw_value}
use Rattle.cc2_cargo.proofs.Raws.{array_here, single_here}
use Rattle.cc2_cargo_settings.specs.Found.{lookup_at}
use Rattle.cc2_cargo_settings.proofs.Finding.{are_more, go_below, go_blocked, last_there, none_more}
use Rattle.cc2_cargo_settings.proofs.found.below_key.Goals as goal

pub returns-then-is_empty : goal.returns-then-is_empty
returns-then-is_empty c =
    let m = c.args.table.now in
    let k = c.args.key.now in
    record {
      table = tt;
      found = ap (λ p. lookup_at (raw_members_at m) (k ∷ p)) (none_more (λ x. x.now) c.args.below.now (sym c.if-is_empty.ensures))
          ∙ last_there m k c.in-Some.raw.now (sym c.in-Some.ensures.value);
    }

pub returns-in-Table : goal.returns-in-Table
returns-in-Table c =
    record {
      table = go_below c.args.table.now c.in-Table.members c.args.key.now c.in-Some.raw.now (map (λ x. x.now) c.args.below.now)
          (are_more (λ x. x.now) c.args.below.now (sym c.if-is_empty.ensures)) (sym c.in-Some.ensures.value) c.in-Table.is;
      found = tt;
    }

pub returns-in-Single : goal.returns-in-Single
returns-in-Single c =
    let s = raw_value c.in-Single.field-0 in
    record {
      table = tt;
      found = go_blocked c.args.table.now c.args.key.now c.in-Some.raw.now (cell.single s) (map (λ x. x.now) c.args.below.now)
          (are_more (λ x. x.now) c.args.below.now (sym c.if-is_empty.ensures)) (sym c.in-Some.ensures.value)
          (single_here c.in-Some.raw.now c.in-Single.field-0 c.in-Single.is) refl (λ f. refl);
    }

pub returns-in-Array : goal.returns-in-Array
returns-in-Array c =
    record {
      table = tt;
      found = go_blocked c.args.table.now c.args.key.now c.in-Some.raw.now (cell.array_cell c.in-Array.field-0) (map (λ x. x.now) c.args.below.now)
          (are_more (λ x. x.now) c.args.below.now (sym c.if-is_empty.ensures)) (sym c.in-Some.ensures.value)
          (array_here c.in-Some.raw.now c.in-Array.field-0 c.in-Array.is) refl (λ f. refl);
    }
