use Rattle.std.proofs.Common.{refl, sym, ◌∙◌, inr, map}
use Rattle.std.proofs.lemmas.Result.{err_from_is_err_and}
use Rattle.toml.specs.View.{table_view}
use Rattle.cc2_cargo.specs.Includes.{include_view}
use Rattle.cc2_cargo.specs.Expanding.{config_file}
use Rattle.cc2_cargo.proofs.Expansions.{include_stops}
use Rattle.cc2_cargo.proofs.expand.read_next.Goals as goal

pub returns-then-branch-2-clause-refused : goal.returns-then-branch-2-clause-refused
returns-then-branch-2-clause-refused g c fs told =
    let read = sym (rw (c.as_str.ensures.value, c.as_slice.ensures.value) at c.in_ok-was_read.ensures.read) ∙ c.if-branch-2.true in
    inr (c.in_ok-is_absent.ensures.no fs told c.if-branch.false, inr (inr (c.args.include.path, refl, refl, read)))

pub returns-in_err-put_includes-clause-refused : goal.returns-in_err-put_includes-clause-refused
returns-in_err-put_includes-clause-refused g c fs told =
    let p = err_from_is_err_and c.from_residual-in_err-put_includes.result c.from_residual-in_err-put_includes.ensures.1 in
    let at = rw c.as_str-2.ensures.value at (c.in_ok-table.ensures.ok fs told) in
    let why = rw c.as_str-3.ensures.value at c.in_err-put_includes.ensures.refused in
    rw (p.1, p.2) (include_stops fs (map config_file c.args.read.now.items) (include_view c.args.include) (table_view c.in_ok-table.table) _
    (c.in_ok-is_absent.ensures.no fs told c.if-branch.false) at why)
