use Rattle.std.proofs.Common.{Some, map, refl, sym, ap, ◌∙◌, inr}
use Rattle.cc2_cargo.specs.Expanding.{config_file}
use Rattle.cc2_cargo.proofs.overrides.with_file.Goals as goal

pub returns-in-Some-clause-refused : goal.returns-in-Some-clause-refused
returns-in-Some-clause-refused g c fs told =
    let again = sym (rw (c.as_slice.ensures.value, c.as_slice-2.ensures.value) at c.in-Some.ensures) in
    inr (inr (
      c.in_ok-path.path,
      map config_file c.in-Ok.list.items,
      refl,
      c.in-Ok.ensures.ok fs told,
      again ∙ ap Some (sym c.in_ok-path.ensures.ok),
    ))
