use Rattle.std.proofs.Common.{[], map, string_bytes, sym, ap, subst, Ok}
use Rattle.std.specs.Prelude.{Option}
use Rattle.std.specs.Map.{keys_of}
use Rattle.cc2_cargo.specs.Raw as cell
use Rattle.cc2_cargo.specs.Raw.{RawCell, raw_members_at, raw_value}
use Rattle.cc2_cargo.proofs.Raws.{array_here, single_here}
use Rattle.cc2_error.specs.Outcomes.{Gives}
use Rattle.cc2_cargo_settings.specs.EnvVariables.{variable_view, variables_in, variables_view}
use Rattle.cc2_cargo_settings.proofs.EnvNames.{array_named, cell_here, none_here, none_named, single_named, table_cell, table_named}
use Rattle.cc2_cargo_settings.proofs.env.env_variables.Goals as goal

pub returns-in-None : goal.returns-in-None
returns-in-None c =
    let settings = c.args.sources.settings.now in
    let is = sym c.in-None.ensures.value in (
      [],
      none_named settings is,
      subst (λ (o : Option RawCell). Gives variables_view (Ok c.new.result) (variables_in (raw_members_at settings) c.args.sources.machine.now c.args.dir.now o []))
          (sym (none_here settings is)) (ap (λ vs. Ok (map variable_view vs)) (sym c.new.ensures.items)),
    )

pub returns-in-Table : goal.returns-in-Table
returns-in-Table c =
    let settings = c.args.sources.settings.now in
    let m = c.in-Table.entries in
    let names = map string_bytes (keys_of m.entries) in
    let is = sym c.in-Some.ensures.value in (
      names,
      table_named settings c.in-Some.raw.now is m c.in-Table.is c.table_variables.ensures.ascending,
      subst (λ (o : Option RawCell). Gives variables_view c.table_variables.result (variables_in (raw_members_at settings) c.args.sources.machine.now c.args.dir.now o names))
          (sym (table_cell settings c.in-Some.raw.now is m c.in-Table.is)) c.table_variables.ensures.variables,
    )

pub returns-in-Single : goal.returns-in-Single
returns-in-Single c =
    let settings = c.args.sources.settings.now in
    let v = c.in-Single.field-0 in
    let is = sym c.in-Some.ensures.value in (
      [],
      single_named settings c.in-Some.raw.now is v c.in-Single.is,
      subst (λ (o : Option RawCell). Gives variables_view c.no_table.result (variables_in (raw_members_at settings) c.args.sources.machine.now c.args.dir.now o []))
          (sym (cell_here settings c.in-Some.raw.now is (cell.single (raw_value v)) (single_here c.in-Some.raw.now v c.in-Single.is))) c.no_table.ensures,
    )

pub returns-in-Array : goal.returns-in-Array
returns-in-Array c =
    let settings = c.args.sources.settings.now in
    let a = c.in-Array.field-0 in
    let is = sym c.in-Some.ensures.value in (
      [],
      array_named settings c.in-Some.raw.now is a c.in-Array.is,
      subst (λ (o : Option RawCell). Gives variables_view c.no_table-in-Array.result (variables_in (raw_members_at settings) c.args.sources.machine.now c.args.dir.now o []))
          (sym (cell_here settings c.in-Some.raw.now is (cell.array_cell a) (array_here c.in-Some.raw.now a c.in-Array.is))) c.no_table-in-Array.ensures,
    )
